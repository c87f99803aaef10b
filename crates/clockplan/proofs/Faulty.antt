-- What a view answers for an entry tells whether it is faulty.
use Rattle.std.proofs.Common.{◌≡◌, ℕ, true, Option, refl, ap}
use Rattle.timing.specs.Meaning.{entry_at, faulty, is_faulty}
use Rattle.delay_file.specs.declared.view.FileView.{FileView}
use Rattle.delay_file.specs.Records.{refused}
use Rattle.delay_file.specs.Files.{entry_answer, view_meaning}
use Rattle.delay_file.proofs.Entries.{answered_entry}

pub fault_there : (v : FileView) (place n : ℕ) (at : Option ℕ) → refused n at ≡ entry_answer v place → true ≡ is_faulty (entry_at (view_meaning v) place)
fault_there v place n at e = ap is_faulty (answered_entry v place (faulty n) (refused n at) refl e)
