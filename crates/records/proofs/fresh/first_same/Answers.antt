use Rattle.std.proofs.Common.{◌≡◌, ℕ, ◌+◌, ◌-◌, ◌*◌, ◌/◌, ◌%◌, ◌≤◌, true, not, List, length, take, drop, ap, ◌∙◌, arith}
use Rattle.fields.specs.Names.{name_rule}
use Rattle.fields.specs.Scan.{first_bad, first_where}
use Rattle.fields.proofs.Scan.{bad-upto}
use Rattle.header.specs.declared.layout.Kind.TheVariants.{Component}
use Rattle.header.specs.Layout.{count_of, record_at, records_of}
use Rattle.header.proofs.Inside.{records-count}
use Rattle.records.specs.declared.fresh.Field.{Field}
use Rattle.records.specs.Fields.{component_name_field, component_name}
use Rattle.records.specs.Fresh.{field_of, alike, NamesKept}
use Rattle.records.specs.Rules.{record_in, run_record, run_records, other_name}
use Rattle.records.proofs.ComponentRuns.{run_inside, upto-taken, part-bad}
use Rattle.records.proofs.NameWords.{search-same}
use Rattle.records.proofs.Parts.{listed}
use Rattle.records.proofs.fresh.first_same.Goals as goal

-- the place that is found by the words of the record, in a run and in an image
module _ (bytes rec : List ℕ) (start end : ℕ) (low : start ≤ end) (field : Field) (is : field ≡ field_of rec)
    (named : name_rule (component_name_field rec) ≡ true) where
  in-run : length bytes % 40 ≡ 0 → end ≤ length (run_records 40 bytes) → NamesKept (run_records 40 bytes) end
      → let run = take (40 * end - 40 * start) (drop (40 * start) bytes) in
      start + first_where (λ j. alike field (run_record 40 run j)) (length run / 40) 0
      ≡ first_bad (λ j. other_name (component_name rec) (record_in (run_records 40 bytes) j)) (end - start) start
  in-run whole few kept =
      rw (is, upto-taken bytes start end)
      (part-bad bytes start end low whole few (λ r. not (alike (field_of rec) r)) ∙ search-same (run_records 40 bytes) rec start end low named kept)

  in_image : end ≤ count_of bytes Component → NamesKept (records_of bytes Component) end
      → first_where (λ j. alike field (record_at bytes Component j)) (end - start) start
      ≡ first_bad (λ j. other_name (component_name rec) (record_in (records_of bytes Component) j)) (end - start) start
  in_image few kept =
      rw is
      (listed bytes (λ r. not (alike (field_of rec) r)) (end - start) start (omega arith)
      ∙ search-same (records_of bytes Component) rec start end low named kept)

pub alike_in_image-requires : goal.alike_in_image-requires
alike_in_image-requires c =
    let is = c.in-Image.is in
    let p = c.requires.whole in
    let few : c.args.end ≤ count_of c.args.records.now Component = rw (is, records-count) at p.1.0 in
    (rw is at p.0, (few, p.1.1))

pub overflow_mul-start : goal.overflow_mul-start
overflow_mul-start c =
    let p = c.requires.whole in
    let is = c.in-Run.is in
    let inside = run_inside c.args.records.now c.args.start c.args.end p.1.1 (rw is at p.0) (rw is at p.1.0) in
    omega (arith, inside)

pub overflow_mul-end : goal.overflow_mul-end
overflow_mul-end c =
    let p = c.requires.whole in
    let is = c.in-Run.is in
    let inside = run_inside c.args.records.now c.args.start c.args.end p.1.1 (rw is at p.0) (rw is at p.1.0) in
    omega (arith, inside)

pub slice_bounds-first_alike-end : goal.slice_bounds-first_alike-end
slice_bounds-first_alike-end c =
    let p = c.requires.whole in
    let is = c.in-Run.is in
    let inside = run_inside c.args.records.now c.args.start c.args.end p.1.1 (rw is at p.0) (rw is at p.1.0) in
    omega (arith, inside)

pub overflow_add-result : goal.overflow_add-result
overflow_add-result c =
    let a = c.args in
    let is = c.in-Run.is in
    let other = λ (j : ℕ). other_name (component_name a.rec.now) (record_in (run_records 40 a.records.now) j) in
    let found : a.start + c.first_alike.result ≡ first_bad other (a.end - a.start) a.start =
    ap (λ (n : ℕ). a.start + n) c.first_alike.ensures
    ∙ in-run a.records.now a.rec.now _ _ c.requires.whole.1.1 _ c.field_of-field.ensures c.requires.in_bounds.1
    (rw is at c.requires.whole.0) (rw is at c.requires.whole.1.0) (rw is at c.requires.names_kept) in
    omega (arith, found, bad-upto other (a.end - a.start) a.start)

pub returns-in-Image : goal.returns-in-Image
returns-in-Image c =
    let a = c.args in
    let is = c.in-Image.is in
    let few : a.end ≤ count_of a.records.now Component = rw (is, records-count) at c.requires.whole.1.0 in
    let kept : NamesKept (records_of a.records.now Component) a.end = rw is at c.requires.names_kept in
    rw is
    (c.alike_in_image.ensures
    ∙ in_image a.records.now a.rec.now _ _ c.requires.whole.1.1 _ c.field_of-field.ensures c.requires.in_bounds.1 few kept)

pub returns-in-Run : goal.returns-in-Run
returns-in-Run c =
    let a = c.args in
    let is = c.in-Run.is in
    rw is
    (ap (λ (n : ℕ). a.start + n) c.first_alike.ensures
    ∙ in-run a.records.now a.rec.now _ _ c.requires.whole.1.1 _ c.field_of-field.ensures c.requires.in_bounds.1
    (rw is at c.requires.whole.0) (rw is at c.requires.whole.1.0) (rw is at c.requires.names_kept))
