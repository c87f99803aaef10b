-- Pairs saved into memory that is just long enough.
use Rattle.std.proofs.Common.{◌≡◌, ℕ, ◌*◌, ◌≤◌, List, ◌++◌, length, take, drop, Ok, Err, Result, refl, ap, ◌∙◌, arith}
use Rattle.std.specs.Result.{IsOk}
use Rattle.std.proofs.lemmas.List.{append-nil, drop_all, take_at}
use Rattle.timing.specs.declared.pair.Pair.{Pair}
use Rattle.timing.specs.declared.refusal.Refusal.{Refusal}
use Rattle.session.specs.Saves.{Saved, saved_bytes}

pub saved_whole : (ps : List Pair) (was out items : List ℕ) (len : ℕ) → length was ≡ len → length out ≡ len → len ≤ length ps * 32 → out ≡ saved_bytes ps ++ drop (length ps * 32) was → take len (out ++ drop (length out) items) ≡ saved_bytes ps
saved_whole ps was out items len w o h e =
    take_at out (drop (length out) items) len o ∙ e ∙ ap (λ xs. saved_bytes ps ++ xs) (drop_all (length ps * 32) was (omega arith)) ∙ append-nil (saved_bytes ps)

-- memory of 32 bytes a pair is long enough
pub saved_ok : (ps : List Pair) (was out : List ℕ) (r : Result ℕ Refusal) → Saved ps was out r → length ps * 32 ≤ length was → IsOk r
saved_ok ps was out (Ok k) h l = refl
saved_ok ps was out (Err f) h l = absurd (omega (arith, h.1))
