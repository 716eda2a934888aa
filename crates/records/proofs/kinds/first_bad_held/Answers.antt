use Rattle.std.proofs.Common.{arith}
use Rattle.records.proofs.BlockRuns.{holds-components}
use Rattle.records.proofs.HeldBlocks.{block_of, held_kept, to-few, from-few, levels-few, run-whole, after-upto, after-names, bad-is, bad-end}
use Rattle.records.proofs.kinds.first_bad_held.Goals as goal

pub first_bad_after-j-requires : goal.first_bad_after-j-requires
first_bad_after-j-requires c =
    let k = block_of c.requires.counted.0 c.requires.counted.1.1 c.requires.shaped in
    record {
      exist = (c.requires.counted.1.0, (levels-few k, omega (arith, from-few k)));
      kind_len = (run-whole k _ c.records_of-run.ensures, c.last_before-previous.ensures.kind_in_bounds);
    }

pub overflow_add-from : goal.overflow_add-from
overflow_add-from c =
    let k = block_of c.requires.counted.0 c.requires.counted.1.1 c.requires.shaped in
    let upto = after-upto k _ c.records_of-run.ensures _ c.last_before-previous.ensures.result_value _ c.first_bad_after-j.ensures in
    omega (arith, upto, to-few k)

pub first_known-requires : goal.first_known-requires
first_known-requires c =
    let run = c.records_of-run.ensures in
    let k = block_of c.requires.counted.0 c.requires.counted.1.1 c.requires.shaped in
    let upto = after-upto k _ run _ c.last_before-previous.ensures.result_value _ c.first_bad_after-j.ensures in
    let names = after-names k _ run _ c.last_before-previous.ensures.result_value _ c.first_bad_after-j.ensures in
    record {
      fitted = (c.requires.counted.0.fitted, (c.requires.counted.1.1, (omega arith, omega (arith, upto, (held_kept k).counted))));
      holds_from = holds-components _ _ _ _ _ _ run upto;
      names_kept = (names c.requires.passed.names, c.requires.passed);
    }

pub returns : goal.returns
returns c =
    let run = c.records_of-run.ensures in
    let k = block_of c.requires.counted.0 c.requires.counted.1.1 c.requires.shaped in
    let last = c.last_before-previous.ensures.result_value in
    let found = c.first_bad_after-j.ensures in
    let known = c.first_known.ensures in
    record {
      value = bad-is k _ run _ last _ found _ known.value;
      passed_2 = λ e. let q = bad-end k _ run _ last _ found _ known.value e in rw q.1 at (known.passed q.0);
    }
