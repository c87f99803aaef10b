use Rattle.std.proofs.lemmas.Result.{err_from_is_err_and}
use Rattle.clockplan.proofs.show_plan.show_plan.Goals as goal

pub returns-in_err-show_read-in-Ok : goal.returns-in_err-show_read-in-Ok
returns-in_err-show_read-in-Ok c =
    let p = err_from_is_err_and c.from_residual-in_err-show_read-in-Ok.result c.from_residual-in_err-show_read-in-Ok.ensures.1 in rw p.1 tt

pub returns-in_err-show_unread-in-Err : goal.returns-in_err-show_unread-in-Err
returns-in_err-show_unread-in-Err c =
    let p = err_from_is_err_and c.from_residual-in_err-show_unread-in-Err.result c.from_residual-in_err-show_unread-in-Err.ensures.1 in rw p.1 tt
