use Rattle.std.proofs.Common.{Ok, sym, ap, ◌∙◌}
use Rattle.journal_log.specs.View.{view}
use Rattle.journal_log.proofs.Stepping.{last_is}
use Rattle.journal.specs.View.{open_view}
use Rattle.journal.proofs.Committing.{room, commits_state, commits_answer}
use Rattle.journal.proofs.opened.Open.commit.Goals as goal

pub add_all-requires : goal.add_all-requires
add_all-requires g c =
    let r = room (open_view c.args.self.now) (g.D.Disk.blocks c.args.disk.now) c.args.number c.as_slice.result.now (ap Ok c.as_slice.ensures.value ∙ c.in_ok-prepare.ensures) in
    record { slots = r.0; top = r.1 }

pub returns : goal.returns
returns g c =
    let j = open_view c.args.self.now in
    let d = g.D.Disk.blocks c.args.disk.now in
    let n = c.args.number in
    let vs = c.as_slice.result.now in
    let ready = ap Ok c.as_slice.ensures.value ∙ c.in_ok-prepare.ensures in
    let l = view c.add_all.new.self in
    let k = open_view c.close.new.self in
    record {
      answer = commits_answer j d n vs ready l k c.add_all.ensures c.close.ensures _ (c.last.ensures ∙ sym (last_is c.close.new.self.log));
      state = commits_state j d n vs ready l k c.add_all.ensures c.close.ensures;
    }
