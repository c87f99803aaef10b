use Rattle.std.proofs.Common.{◌≡◌, ℤ, ◌-ℤ◌, ◌∙◌, ap₂, arith, w64, SFits, to_z, of_z}
use mir.Syntax.{w128}
use Rattle.std.proofs.lemmas.Int.{ints, to_z-of_z}
use Rattle.timing.proofs.pair.spare.Goals as goal

-- a 64-bit number widened to 128 bits is itself
widened : (x y : ℤ) → SFits w64 x → y ≡ to_z w64 (of_z w64 x) → to_z w128 (of_z w128 y) ≡ x
widened x y f e = let h = e ∙ to_z-of_z w64 x f in rw h (to_z-of_z w128 x (omega (arith, ints)))

apart_fits : (x y : ℤ) → SFits w64 x → SFits w64 y → SFits w128 (x -ℤ y)
apart_fits x y f g = omega (arith, ints)

spare-fits : (x y z : ℤ) → SFits w64 x → SFits w64 y → SFits w64 z → SFits w128 (x -ℤ (y -ℤ z))
spare-fits x y z f g h = omega (arith, ints)

-- what the code subtracts, with the casts taken away
apart : (c : goal.After-from-3) → to_z w128 (of_z w128 (to_z w128 (of_z w128 c.from.result) -ℤ to_z w128 (of_z w128 c.from-2.result))) ≡ c.args.later -ℤ c.args.sooner
apart c =
    let l = widened c.args.later c.from.result c.ranges.later c.from.ensures in
    let s = widened c.args.sooner c.from-2.result c.ranges.sooner c.from-2.ensures in
    rw (l, s) (to_z-of_z w128 (c.args.later -ℤ c.args.sooner) (apart_fits _ _ c.ranges.later c.ranges.sooner))

left : (c : goal.After-from-3) → to_z w128 (of_z w128 c.from-3.result) -ℤ to_z w128 (of_z w128 (to_z w128 (of_z w128 c.from.result) -ℤ to_z w128 (of_z w128 c.from-2.result))) ≡ c.args.room -ℤ (c.args.later -ℤ c.args.sooner)
left c = ap₂ (λ a b. a -ℤ b) (widened c.args.room c.from-3.result c.ranges.room c.from-3.ensures) (apart c)

pub overflow_sub-result : goal.overflow_sub-result
overflow_sub-result c = rw (left c) (spare-fits _ _ _ c.ranges.room c.ranges.later c.ranges.sooner)

pub returns : goal.returns
returns c =
    rw (left c) (to_z-of_z w128 (c.args.room -ℤ (c.args.later -ℤ c.args.sooner)) (spare-fits _ _ _ c.ranges.room c.ranges.later c.ranges.sooner))
