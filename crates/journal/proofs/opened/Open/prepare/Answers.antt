use Rattle.std.proofs.Common.{◌∙◌}
use Rattle.std.proofs.lemmas.Result.{err_from_is_err_and}
use Rattle.journal.specs.View.{open_view}
use Rattle.journal.proofs.Views.{table_taken}
use Rattle.journal.proofs.Committing.{settled_there, lacks_room, prepared}
use Rattle.journal.proofs.opened.Open.prepare.Goals as goal

pub returns-in_err-check_room : goal.returns-in_err-check_room
returns-in_err-check_room g c =
    let o = c.args.self.now in
    let p = err_from_is_err_and c.from_residual-in_err-check_room.result c.from_residual-in_err-check_room.ensures.1 in
    rw (p.1, p.2) (lacks_room (open_view o) _ c.args.number c.in_ok-table.table.now (table_taken _ _ c.in_ok-table.table c.in_ok-table.ensures.value ∙ c.table.ensures) _ (c.as_slice-blocks.ensures.value ∙ c.dirty_blocks-dirty.ensures) (settled_there o.log) _ c.in_err-check_room.ensures)

pub returns-in_err-stage : goal.returns-in_err-stage
returns-in_err-stage g c =
    let o = c.args.self.now in
    let p = err_from_is_err_and c.from_residual-in_err-stage.result c.from_residual-in_err-stage.ensures.1 in
    rw (p.1, p.2) (prepared (open_view o) _ c.args.number c.in_ok-table.table.now (table_taken _ _ c.in_ok-table.table c.in_ok-table.ensures.value ∙ c.table.ensures) _ (c.as_slice-blocks.ensures.value ∙ c.dirty_blocks-dirty.ensures) (settled_there o.log) c.in_ok-check_room.ensures _ c.in_err-stage.ensures)

pub returns : goal.returns
returns g c =
    let o = c.args.self.now in
    prepared (open_view o) _ c.args.number c.in_ok-table.table.now (table_taken _ _ c.in_ok-table.table c.in_ok-table.ensures.value ∙ c.table.ensures) _ (c.as_slice-blocks.ensures.value ∙ c.dirty_blocks-dirty.ensures) (settled_there o.log) c.in_ok-check_room.ensures _ c.in_ok-stage.ensures
