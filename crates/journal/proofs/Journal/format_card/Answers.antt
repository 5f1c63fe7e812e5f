use Rattle.std.proofs.Common.{is_some, ap}
use Rattle.std.proofs.lemmas.Result.{err_from_is_err_and}
use Rattle.model.proofs.Calls.{format_state, format_disk, format_writes, format_ok, format_err}
use Rattle.model.specs.Log.{card_tests}
use Rattle.disk.specs.Tests.{first_of}
use Rattle.model.proofs.Card.{card_ready}
use Rattle.model.proofs.Format.{format_again}
use Rattle.model.proofs.Tests.{value_ok}
use Rattle.journal.specs.View.{view}
use Rattle.journal.proofs.Journal.format_card.Goals as goal

pub returns-in_err-format : goal.returns-in_err-format
returns-in_err-format g c =
    let j = c.args.self.now in
    let d = g.D.Disk.blocks j.disk in
    let is = ap is_some c.requires in
    let p = err_from_is_err_and c.from_residual.result c.from_residual.ensures.1 in
    record {
      answer = rw (p.1, p.2) (format_err (view j) d is _ c.in_err-format.ensures.answer);
      again = rw p.1 tt;
      state = format_state (view j) d is;
      blocks = format_disk (view j) d is _ c.format.ensures.blocks;
      writes = format_writes (view j) d is _ _ c.format.ensures.writes;
    }

pub returns : goal.returns
returns g c =
    let j = c.args.self.now in
    let d = g.D.Disk.blocks j.disk in
    let is = ap is_some c.requires in
    record {
      answer = format_ok (view j) d is c.in_ok-format.ensures.answer;
      again = format_again d (card_ready d (value_ok (first_of (card_tests d)) tt tt c.in_ok-format.ensures.answer).0);
      state = format_state (view j) d is;
      blocks = format_disk (view j) d is _ c.format.ensures.blocks;
      writes = format_writes (view j) d is _ _ c.format.ensures.writes;
    }
