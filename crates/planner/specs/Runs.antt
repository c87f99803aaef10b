-- Runs of a session: lists of calls, each answered as the book in force at that moment has it.
use Rattle.std.specs.Prelude.{◌≡◌, ℕ, ◌<◌, List, [], ◌∷◌, ◌++◌, map, length, take, Ok, Err, vec_items, Result, Vec, slice_index_or}
use Rattle.std.specs.declared.alloc.AllocError.{AllocError}
use Rattle.std.specs.declared.alloc.Global.{Global}
use Rattle.timing.specs.Domains.{domain_byte}
use Rattle.timing.specs.Meaning.{answered, entry_at, pair}
use Rattle.timing.specs.Outcomes.{Outcome, told}
use Rattle.timing.specs.declared.pair.Pair.{Pair}
use Rattle.timing.specs.declared.refusal.Refusal.{Refusal}
use Rattle.delay_file.specs.declared.fault.Fault.{Fault}
use Rattle.session.specs.Book.{Book, Lists, add_answer, added, retime_answer, retimed, drop_answer, dropped, pin_answer, pinned, ceiling_answer, ceiled, after}
use Rattle.session.specs.Loads.{book_after, loaded_as, loading}
use Rattle.session.specs.Saves.{saved_bytes}
use Rattle.planner.specs.declared.call.Answer.{Answer}
use Rattle.planner.specs.declared.call.Answer.TheVariants.{Edited, Loaded, Saved, Registers, Entries, Shown}
use Rattle.planner.specs.declared.call.Call.{Call}
use Rattle.planner.specs.declared.call.Call.TheVariants.{Add, Retime, DropPair, Pin, Unpin, SetCeiling, Load, Save, RegisterCount, EntryCount, Entry}

-- The book after a call. Edits change it where they are granted; questions change nothing.
abbrev pub next : Book → Call → Book
next b (Add p) = after (add_answer b p) b (added b p)
next b (Retime p) = after (retime_answer b p) b (retimed b p)
next b (DropPair x y) = after (drop_answer b x y) b (dropped b x y)
next b (Pin r d) = after (pin_answer b r) b (pinned b r (domain_byte d))
next b (Unpin r) = after (pin_answer b r) b (pinned b r 2)
next b (SetCeiling c) = after (ceiling_answer c) b (ceiled b c)
next b (Load file) = book_after (loading b (vec_items file)) b
next b Save = b
next b RegisterCount = b
next b EntryCount = b
next b (Entry place) = b

-- an edit that was answered as the book answers it
abbrev pub AsTold : Outcome (Unit {0}) → Answer → Type 0
AsTold o a = (r : Result (Unit {0}) Refusal) × (a ≡ Edited r) × (told r ≡ o)

-- what save gave: the records of the kept pairs, each once in some order, unless there was no memory for them
abbrev pub Saves : Book → Result (Vec ℕ Global) AllocError → Type 0
Saves b (Ok v) = (ps : List Pair) × Lists b ps × (vec_items v ≡ saved_bytes ps)
Saves b (Err e) = Unit {0}

-- The answer a to a call is right while the book is b. Questions about places speak of some listing of the kept pairs.
abbrev pub Right : Book → Call → Answer → Type 0
Right b (Add p) a = AsTold (add_answer b p) a
Right b (Retime p) a = AsTold (retime_answer b p) a
Right b (DropPair x y) a = AsTold (drop_answer b x y) a
Right b (Pin r d) a = AsTold (pin_answer b r) a
Right b (Unpin r) a = AsTold (pin_answer b r) a
Right b (SetCeiling c) a = AsTold (ceiling_answer c) a
Right b (Load file) a = (r : Result (Unit {0}) Fault) × (a ≡ Loaded r) × (loaded_as r (next b (Load file)) ≡ loading b (vec_items file))
Right b Save a = (r : Result (Vec ℕ Global) AllocError) × (a ≡ Saved r) × Saves b r
Right b RegisterCount a = a ≡ Registers b.registers
Right b EntryCount a = a ≡ Entries b.count
Right b (Entry place) a =
    (ps : List Pair) × (r : Result Pair Refusal) × (a ≡ Shown r) × Lists b ps × (answered r ≡ entry_at (record { registers = b.registers; entries = map pair ps }) place)

-- From the book b the calls are answered so, and leave the book e.
pub data Runs : Book → List Call → List Answer → Book → Type 0 where
  none : {b : Book} → Runs b [] [] b
  call : {b e : Book} {c : Call} {a : Answer} {cs : List Call} {rest : List Answer} → Right b c a → Runs (next b c) cs rest e → Runs b (c ∷ cs) (a ∷ rest) e

-- the book after calls, whatever was answered
abbrev pub after_all : Book → List Call → Book
after_all b [] = b
after_all b (c ∷ cs) = after_all (next b c) cs

-- The calls alone decide the book.
abbrev pub BookDecided : Type 0
BookDecided = (b e : Book) (cs : List Call) (rs : List Answer) → Runs b cs rs e → e ≡ after_all b cs

-- Each answer is right for the book after the calls before it.
abbrev pub RightAtEach : Type 0
RightAtEach =
    (b e : Book) (cs : List Call) (rs : List Answer) → Runs b cs rs e → (k : ℕ) (c : Call) (a : Answer) → k < length cs → Right (after_all b (take k cs)) (slice_index_or cs k c) (slice_index_or rs k a)

-- Two runs in a row are one.
abbrev pub RunsJoined : Type 0
RunsJoined =
    (b m e : Book) (cs ds : List Call) (rs ts : List Answer) → Runs b cs rs m → Runs m ds ts e → Runs b (cs ++ ds) (rs ++ ts) e
