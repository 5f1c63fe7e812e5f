use Rattle.std.proofs.Common.{ℕ, ◌-◌, List, get_or, take, set, unwrap_or, ap, ◌∙◌, arith, length-set}
use Rattle.list_card.proofs.Homes.{home_or_zero, homes_more, homes_all}
use Rattle.list_card.proofs.lists.live_homes.Goals as goal

pub loop-p-preserved : goal.loop-p-preserved
loop-p-preserved c =
    let l = c.args.log.now in
    let p = c.loop-p.p in
    let x = c.unwrap_or.result in
    let homes = c.loop-p.homes in
    let s = c.start-start.ensures in
    let is = c.unwrap_or.ensures ∙ ap (λ o. unwrap_or o 0) c.home_at.ensures ∙ home_or_zero l p (omega arith) (omega arith) in (
      length-set homes (p - c.start-start.result) x ∙ c.loop-p.invariant.0,
      λ k h. ap (λ n. get_or (set homes (p - n) x) k 0) s ∙ homes_more l.ring.rows l.start homes p x (omega arith) (omega arith) is c.loop-p.invariant.1 k h,
    )

pub returns : goal.returns
returns c =
    let l = c.args.log.now in
    let homes = c.loop-p.homes in
    let s = c.start-start.ensures in
    let e = c.end-end.ensures in
    ap (λ n. (n, c.end-end.result, take (c.end-end.result - n) homes)) s ∙
    ap (λ n. (l.start, n, take (n - l.start) homes)) e ∙
    ap (λ (hs : List ℕ). (l.start, l.end, hs)) (homes_all l.ring.rows l.start homes (l.end - l.start) (omega arith) (λ k h. c.loop-p.invariant.1 k (omega arith)))
