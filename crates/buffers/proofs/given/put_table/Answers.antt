use Prim.Native.Nat.{◌+◌, ◌-◌, ◌≤◌}
use mathlib.Core.Path.{◌∙◌}
use native.Mathlib.Omega.{arith}
use lib.ListN.{length}
use Rattle.buffers.proofs.Stored.{part-long, Begun, begun-turn, begun-end}
use Rattle.buffers.proofs.given.put_table.Goals as goal

pub returns : goal.returns
returns c =
    let text = c.args.text.now in
    let from = c.put_front-from.result in
    let first = c.put_front-from.ensures in
    let begun : Begun c.args.buffer.now c.args.at text _ from = record { long = c.put_front-from.auto.buffer; bytes = first.0 } in
    let inside : from + (length text - from) ≤ length text = omega (arith, first.1) in
    let rest = part-long text from (length text - from) inside in
    let whole = begun-turn _ _ text c.requires _ from begun from (length text - from) inside (omega arith) (omega arith) _ c.put.ensures.bytes in
    record {
      bytes = begun-end _ _ text c.requires _ _ whole (omega arith);
      stop = c.put.ensures.stop ∙ omega (arith, rest, first.1);
    }
