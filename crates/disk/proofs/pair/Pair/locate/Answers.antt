use Rattle.std.proofs.Common.{sym, arith}
use Rattle.disk.proofs.Pairs.{found_first, found_second}
use Rattle.disk.proofs.pair.Pair.locate.Goals as goal

pub returns-then-block-first : goal.returns-then-block-first
returns-then-block-first g c = found_first _ _ _ _ c.args.block c.args.buf.now (omega arith) (omega arith)

pub returns : goal.returns
returns g c = found_second _ _ _ _ c.args.block c.args.buf.now (omega arith) c.counts-first.result.0 (sym c.counts-first.ensures.first.0) (omega arith)
