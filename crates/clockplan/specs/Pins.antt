-- Pins as people write them, and the bytes that they are.
use Rattle.std.specs.Prelude.{◌≡◌, ℕ, ◌<◌, ◌≤◌, List, Some, codes, ◌≢◌}
use Rattle.timing.specs.declared.domain.Domain.{Domain}
use Rattle.timing.specs.declared.domain.Domain.TheVariants.{Early, Late}
use Rattle.delay_file.specs.declared.view.FileView.{FileView}
use Rattle.delay_file.specs.Files.{register_name, view_registers}

-- the end of a pin's text, behind the name
abbrev pub pin_end : Domain → List ℕ
pin_end Early = codes "=early"
pin_end Late = codes "=late"

-- no register from one number up to another, without that, has this name
abbrev pub Unnamed : FileView → List ℕ → ℕ → ℕ → Type 0
Unnamed v name from end = (j : ℕ) → from ≤ j → j < end → register_name v j ≢ Some name

-- a register that has this name, and no other has it
abbrev pub OnlyNamed : FileView → List ℕ → ℕ → Type 0
OnlyNamed v name k = (register_name v k ≡ Some name) × ((j : ℕ) → j < view_registers v → register_name v j ≡ Some name → j ≡ k)
