-- One more call at the end of a run, and the laws of runs.
use Rattle.std.proofs.Common.{◌≡◌, ℕ, zero, suc, ◌+◌, ◌<◌, ◌≤◌, List, [], ◌∷◌, ◌++◌, length, get_or, take, sym, refl, ap, ◌∙◌, subst, arith}
use Rattle.std.proofs.lemmas.List.{take_more, take_all}
use Rattle.session.specs.Book.{Book}
use Rattle.planner.specs.declared.call.Call.{Call}
use Rattle.planner.specs.declared.call.Answer.{Answer}
use Rattle.planner.specs.Runs.{Runs, none, call, Right, next, after_all, BookDecided, RightAtEach, RunsJoined}

pub runs_snoc : {b m : Book} {cs : List Call} {rs : List Answer} (c : Call) (a : Answer) → Runs b cs rs m → Right m c a → Runs b (cs ++ c ∷ []) (rs ++ a ∷ []) (next m c)
runs_snoc c a none h = call h none
runs_snoc c a (call g rest) h = call g (runs_snoc c a rest h)

pub runs_more : (b m e : Book) (xs : List Call) (i : ℕ) (rs ts : List Answer) (c : Call) (a : Answer) → i < length xs → c ≡ get_or xs i c →
    Runs b (take i xs) rs m → Right m c a → e ≡ next m c → ts ≡ rs ++ a ∷ [] → Runs b (take (i + 1) xs) ts e
runs_more b m e xs i rs ts c a l at r h same pushed =
    let P : List Call → Type 0 = λ ys. Runs b ys (rs ++ a ∷ []) (next m c) in
    let Q : List Answer → Type 0 = λ ys. Runs b (take (i + 1) xs) ys (next m c) in
    let R : Book → Type 0 = λ k. Runs b (take (i + 1) xs) ts k in
    subst R (sym same) (subst Q (sym pushed)
    (subst P (sym (take_more xs i c l ∙ ap (λ (x : Call). take i xs ++ x ∷ []) (sym at))) (runs_snoc c a r h)))

pub runs_none : (b : Book) (rs : List Answer) → rs ≡ [] → Runs b [] rs b
runs_none b rs e = let P : List Answer → Type 0 = λ ys. Runs b [] ys b in subst P (sym e) none

pub runs_all : (b e : Book) (xs : List Call) (i : ℕ) (rs : List Answer) → length xs ≤ i → Runs b (take i xs) rs e → Runs b xs rs e
runs_all b e xs i rs l r = let P : List Call → Type 0 = λ ys. Runs b ys rs e in subst P (take_all i xs l) r

decided : {b e : Book} {cs : List Call} {rs : List Answer} → Runs b cs rs e → e ≡ after_all b cs
decided none = refl
decided (call g rest) = decided rest

pub book_decided : BookDecided
book_decided b e cs rs r = decided r

pub right_at_each : RightAtEach
right_at_each b e [] rs r k c a l = absurd (omega arith)
right_at_each b e (d ∷ cs) [] r k c a l = elim r [ ]
right_at_each b e (d ∷ cs) (s ∷ rs) (call g rest) zero c a l = g
right_at_each b e (d ∷ cs) (s ∷ rs) (call g rest) (suc k) c a l = right_at_each (next b d) e cs rs rest k c a (omega arith)

joined : {b m e : Book} {cs ds : List Call} {rs ts : List Answer} → Runs b cs rs m → Runs m ds ts e → Runs b (cs ++ ds) (rs ++ ts) e
joined none q = q
joined (call g rest) q = call g (joined rest q)

pub runs_joined : RunsJoined
runs_joined b m e cs ds rs ts p q = joined p q
