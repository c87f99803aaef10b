-- Text that is put into memory piece by piece.
use Rattle.std.specs.Prelude.{◌≡◌, ℕ, ◌+◌, ◌≤◌, List, ◌++◌, length, take, drop}
use Rattle.plan_report.specs.declared.text.Text.{Text}

-- memory with these bytes put in from a place on
abbrev pub put : ℕ → List ℕ → List ℕ → List ℕ
put at xs was = take at was ++ (xs ++ drop (at + length xs) was)

-- there is room for so many bytes more
abbrev pub HasRoom : Text → ℕ → Type 0
HasRoom t n = t.end + n ≤ length t.memory.now

-- These bytes were put behind the text: all else in its memory stays, and it ends where they end.
pub record Pushes (xs : List ℕ) (was now : Text) : Type 0 where
  pub memory : now.memory.now ≡ put was.end xs was.memory.now
  pub ends : now.end ≡ was.end + length xs
  pub same_length : length now.memory.now ≡ length was.memory.now
  pub same_memory : now.memory.ghost_name ≡ was.memory.ghost_name
