use Rattle.std.proofs.Common.{◌<◌, length, refl, arith}
use Rattle.session.specs.Book.{book}
use Rattle.session.proofs.Books.{same_book, addable}
use Rattle.session.proofs.Look.{find_added, apart_added, lawful_wrote, none_missing}
use Rattle.session.proofs.Session.put.Goals as goal

pub invariant_of-self : goal.invariant_of-self
invariant_of-self c =
    let s = c.args.self.now in
    let xs = s.pairs.items in
    let n = s.used in
    let p = c.args.pair in
    let t = addable (book s) p c.requires in
    let l : n < length xs = let o = s.pairs.ok.0 in let q = t.room in omega arith in
    record {
      registers_within = s.registers_within;
      fits = omega (arith, t.room);
      few = omega (arith, t.few);
      pin_bytes = s.pin_bytes;
      apart = apart_added n xs p l s.apart (none_missing n xs p.launch p.capture (omega arith) t.absent);
      lawful = lawful_wrote s.registers n _ xs n p l t.limits (λ k h ne. omega arith) s.lawful;
    }

pub returns : goal.returns
returns c =
    let s = c.args.self.now in
    let t = addable (book s) c.args.pair c.requires in
    let l : s.used < length s.pairs.items = let o = s.pairs.ok.0 in let q = t.room in omega arith in
    record { next = same_book _ _ refl refl (λ x y. find_added s.used s.pairs.items c.args.pair x y l t.absent) refl refl refl; pins = refl }
