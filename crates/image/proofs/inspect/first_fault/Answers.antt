use Prim.Native.Nat.{◌≤◌, ◌<◌}
use mathlib.Core.Path.{◌≡◌, sym, ◌∙◌, ap₂}
use mathlib.Core.Bool.{◌&&◌}
use native.Mathlib.Omega.{arith}
use borrow.Author.Tests.{lt-ltb, le-ltb}
use Rattle.fields.proofs.Both.{both_left, both_right}
use Rattle.blocks.specs.Blocks.{block_count, first_bad_block}
use Rattle.blocks.proofs.Meaning.{length-means}
use Rattle.header.specs.Header.{header_rule, fit_rule}
use Rattle.records.proofs.MeaningHeader.{counted}
use Rattle.image.specs.Check.{fault_of}
use Rattle.image.specs.Walk.{found_fault}
use Rattle.image.proofs.Told.{found-lowest}
use Rattle.image.proofs.Tables.{tells-fault}
use Rattle.image.proofs.inspect.first_fault.Goals as goal

pub returns-then-not-length_ok : goal.returns-then-not-length_ok
unfolding fault_of found_fault
returns-then-not-length_ok c = tells-fault (rw (found-lowest _, sym c.length_ok.ensures ∙ c.if-not-length_ok.true))

pub first_bad_block-bad-requires : goal.first_bad_block-bad-requires
first_bad_block-bad-requires c = (length-means _ (sym c.length_ok.ensures ∙ c.if-not-length_ok.false)).whole

pub returns-then-bad-image : goal.returns-then-bad-image
unfolding fault_of found_fault block_count
returns-then-bad-image c =
    let im = c.args.image.now in
    let h : first_bad_block im < block_count im = omega arith in
    tells-fault
    (rw (
      found-lowest _,
      sym c.length_ok.ensures ∙ c.if-not-length_ok.false,
      lt-ltb _ _ h,
      c.first_bad_block-bad.ensures,
    ))

pub header_ok-requires : goal.header_ok-requires
header_ok-requires c =
    let k = length-means _ (sym c.length_ok.ensures ∙ c.if-not-length_ok.false) in
    omega arith

pub fit_ok-requires : goal.fit_ok-requires
fit_ok-requires c =
    let k = length-means _ (sym c.length_ok.ensures ∙ c.if-not-length_ok.false) in
    omega arith

pub returns-then-not-header_ok-fit_ok : goal.returns-then-not-header_ok-fit_ok
unfolding fault_of found_fault block_count
returns-then-not-header_ok-fit_ok c =
    let im = c.args.image.now in
    let h : block_count im ≤ first_bad_block im = omega arith in
    let both : (header_rule im && fit_rule im) ≡ (c.header_ok.result && c.fit_ok.result) =
    sym (ap₂ ◌&&◌ c.header_ok.ensures c.fit_ok.ensures) in
    tells-fault
    (rw (
      found-lowest _,
      sym c.length_ok.ensures ∙ c.if-not-length_ok.false,
      le-ltb _ _ h,
      both ∙ c.if-not-header_ok-fit_ok.true,
    ))

pub counted_fault-requires : goal.counted_fault-requires
counted_fault-requires c =
    let im = c.args.image.now in
    let both : (header_rule im && fit_rule im) ≡ (c.header_ok.result && c.fit_ok.result) =
    sym (ap₂ ◌&&◌ c.header_ok.ensures c.fit_ok.ensures) in
    let sound = both ∙ c.if-not-header_ok-fit_ok.false in
    counted im (both_left (header_rule im) (fit_rule im) sound) (both_right (header_rule im) (fit_rule im) sound)

pub returns : goal.returns
unfolding fault_of found_fault block_count
returns c =
    let im = c.args.image.now in
    let h : block_count im ≤ first_bad_block im = omega arith in
    let both : (header_rule im && fit_rule im) ≡ (c.header_ok.result && c.fit_ok.result) =
    sym (ap₂ ◌&&◌ c.header_ok.ensures c.fit_ok.ensures) in
    record {
      same =
          rw (
            found-lowest _,
            sym c.length_ok.ensures ∙ c.if-not-length_ok.false,
            le-ltb _ _ h,
            both ∙ c.if-not-header_ok-fit_ok.false,
          )
          c.counted_fault.ensures.same;
      filled = c.counted_fault.ensures.filled;
    }
