use Rattle.std.proofs.Common.{[], ◌∷◌, ◌++◌, sym, refl, ap, ◌∙◌}
use Rattle.std.proofs.lemmas.Result.{err_from_is_err_and}
use Rattle.object.specs.Tables.{Held}
use Rattle.model.specs.Outcomes.{passed}
use Rattle.journal_log.specs.View.{view}
use Rattle.journal.proofs.Touching.{not_in, refused_so, granted_so, held_granted, held_seen, held_same, dead_refused, live_granted, live_seen, live_held, room_for_one}
use Rattle.journal.proofs.objects.Newest.read_object.Goals as goal

pub returns-in-Some : goal.returns-in-Some
returns-in-Some g c =
    let s = c.args.self.now in
    let l = view s.log.now in
    let d = g.D.Disk.blocks s.disk.now in
    let o = c.args.spot.place in
    let hs = c.args.table.now in
    let ok = c.in_ok-check.ensures in
    let v = sym c.in-Some.ensures.value in
    let e = held_granted l d o hs ok _ v in
    record { answer = sym (ap passed e); buffer = c.copy_from_slice.ensures.after ∙ held_seen l d o hs ok _ v ∙ granted_so _ _ e; table = held_same l d o hs ok _ v ∙ granted_so _ _ e }

pub returns-in_err-block : goal.returns-in_err-block
returns-in_err-block g c =
    let s = c.args.self.now in
    let d = g.D.Disk.blocks s.disk.now in
    let o = c.args.spot.place in
    let hs = c.args.table.now in
    let told = c.in_err-block.ensures in
    let e = dead_refused (view s.log.now) d o hs c.in_ok-check.ensures (not_in o hs (sym c.in_default.ensures.value)) told.0 in
    let p = err_from_is_err_and c.from_residual-in_err-block.result c.from_residual-in_err-block.ensures.1 in
    rw (p.1, p.2, told.1) (record { answer = sym (ap passed e); buffer = refused_so _ _ _ e; table = refused_so _ _ _ e })

pub add-requires : goal.add-requires
add-requires g c =
    let s = c.args.self.now in
    let o = c.args.spot.place in
    let hs = c.args.table.now in
    room_for_one (view s.log.now) (g.D.Disk.blocks s.disk.now) o hs c.in_ok-check.ensures (not_in o hs (sym c.in_default.ensures.value))

pub returns : goal.returns
returns g c =
    let s = c.args.self.now in
    let l = view s.log.now in
    let d = g.D.Disk.blocks s.disk.now in
    let o = c.args.spot.place in
    let hs = c.args.table.now in
    let ok = c.in_ok-check.ensures in
    let none = not_in o hs (sym c.in_default.ensures.value) in
    let found = c.in_ok-block.ensures in
    let e = live_granted l d o hs ok none _ found in
    record {
      answer = sym (ap passed e);
      buffer = c.take.ensures.bytes ∙ live_seen l d o hs ok none _ found ∙ granted_so _ _ e;
      table = c.add.ensures ∙ ap (λ (x : Held). hs ++ x ∷ []) c.read.ensures ∙ live_held l d o hs ok none _ found _ refl ∙ granted_so _ _ e;
    }
