use Prim.Native.Nat.{ℕ, ◌+◌, ◌≤◌}
use mathlib.Core.Path.{◌≡◌, refl, sym, ap, ap₂, ◌∙◌}
use mathlib.Core.List.{List}
use native.Mathlib.Omega.{arith}
use lib.ListN.{length}
use Rattle.header.specs.declared.edition.Edition.TheVariants.{One}
use Rattle.header.specs.declared.counts.Counts.{Counts}
use Rattle.header.specs.declared.layout.Kind.{Kind}
use Rattle.header.specs.declared.layout.Kind.TheVariants.{Component, Label, User}
use Rattle.header.specs.Layout.{edition_of, users, labels, components, record_size, blocks_for}
use Rattle.header.specs.Limits.{Counted}
use Rattle.header.proofs.Editions.{counted-groups, counted-users, counted-labels}
use Rattle.header.proofs.Inside.{header-inside}
use Rattle.writing.specs.Laid.{Sized, header_block, blocks_in, first_in, kind_laid, image_of}
use Rattle.writing.proofs.FewRecords.{few-blocks}
use Rattle.writing.proofs.KindSteps.{written_same}
use Rattle.writing.proofs.ImageWritten.{components-room, labels-room, users-room, image-written}
use Rattle.moves.specs.declared.target.Move.{Move}
use Rattle.moves.specs.Moved.{edition_after, new_counts, new_records, new_image}
use Rattle.moves.specs.Parts.{new_header, new_capacity, new_blocks, new_kind}
use Rattle.moves.proofs.NewImage.{old-groups, new-count, new-fits}
use Rattle.moves.proofs.Steps.{moved_length}
use Rattle.moves.proofs.laying.put_image.Goals as goal

-- the places of a kind's blocks fit two bytes
place-fits : (which : Move) (im : List ℕ) → Counted im → (1 + components im ≤ 65536)
    × ((1 + new_blocks which im Component + labels im ≤ 65536) × (1 + new_blocks which im Component + new_blocks which im Label + users im ≤ 65536))
unfolding components
place-fits which im k =
    let g = counted-groups im k in
    let u = counted-users im k in
    let l = counted-labels im k in
    let c = few-blocks (edition_after which) Component (components im) in
    let b = few-blocks (edition_after which) Label (labels im) in (
      omega (arith, k.levels_limit, k.compartments_limit),
      (omega (arith, k.levels_limit, k.compartments_limit), omega (arith, k.levels_limit, k.compartments_limit)),
    )

-- what is written, by the new records
module _ (which : Move) (im : List ℕ) where
  abbrev counts : Counts
  counts = new_counts which im

  abbrev records : Kind → List (List ℕ)
  records = new_records which im

  header_is : new_header which im ≡ header_block counts (length (records User)) (length (records Label))
  header_is = ap₂ (header_block counts) (sym (new-count which im User)) (sym (new-count which im Label))

  blocks-are : (kind : Kind) → new_blocks which im kind ≡ blocks_in counts records kind
  blocks-are kind = ap (blocks_for (new_capacity which kind)) (sym (new-count which im kind))

  laid : (kind : Kind) (place : ℕ) → place ≡ first_in counts records kind → new_kind which im kind place ≡ kind_laid counts records kind
  laid kind place e = rw (e, ← new-count which im kind)

  -- where the labels and the users start
  label-place : {components : ℕ} → components ≡ new_blocks which im Component → 1 + components ≡ first_in counts records Label
  label-place c = ap (λ (x : ℕ). 1 + x) (c ∙ blocks-are Component)

  user-place : {components labels : ℕ} → components ≡ new_blocks which im Component → labels ≡ new_blocks which im Label
      → 1 + components + labels ≡ first_in counts records User
  user-place c l = ap₂ (λ (x y : ℕ). x + y) (label-place c) (l ∙ blocks-are Label)

  module _ (old : Counted im × (edition_of im ≡ One)) where
    sizes : (kind : Kind) → Sized (record_size (edition_after which) kind) (records kind)
    sizes = (new-fits which im old.0.fitted old.1).sizes

    room : {long : ℕ} → length (new_image which im) ≤ long → length (image_of counts records) ≤ long
    unfolding new_image
    room h = h

pub blocks_for-label_place-requires : goal.blocks_for-label_place-requires
blocks_for-label_place-requires g c = header-inside _ c.requires.counted.0.fitted

pub blocks_for-requires : goal.blocks_for-requires
blocks_for-requires g c = header-inside _ c.requires.counted.0.fitted

pub put_counts-head-requires : goal.put_counts-head-requires
put_counts-head-requires g c =
    let old = c.requires.counted in
    let long = moved_length g.S.Step.which c.args.image.now old.0.fitted old.1 in
    (header-inside _ old.0.fitted, (old-groups _ old.1 old.0.groups_limit, omega (arith, c.requires.image_in_bounds)))

pub move_kind-components-requires : goal.move_kind-components-requires
move_kind-components-requires g c =
    let which = g.S.Step.which in
    let im = c.args.image.now in
    let old = c.requires.counted in
    let inside = room which im old c.requires.image_in_bounds in
    let head = written_same (header_is which im) c.put_counts-head.ensures in
    record {
      fitted = (old.0.fitted, (old.1, (place-fits which im old.0).0));
      kind_in_bounds = rw (blocks-are which im Component) (components-room (counts which im) (records which im) (sizes which im old) inside head);
    }

pub move_kind-labels-requires : goal.move_kind-labels-requires
move_kind-labels-requires g c =
    let which = g.S.Step.which in
    let im = c.args.image.now in
    let old = c.requires.counted in
    let place = (place-fits which im old.0).1.0 in
    let inside = room which im old c.requires.image_in_bounds in
    let head = written_same (header_is which im) c.put_counts-head.ensures in
    let first = written_same (laid which im Component 1 refl) c.move_kind-components.ensures in
    record {
      fitted = (old.0.fitted, (old.1, omega (arith, c.blocks_for-label_place.ensures.0)));
      kind_in_bounds = rw (blocks-are which im Label) (labels-room (counts which im) (records which im) (sizes which im old) inside head first);
    }

pub move_kind-requires : goal.move_kind-requires
move_kind-requires g c =
    let which = g.S.Step.which in
    let im = c.args.image.now in
    let old = c.requires.counted in
    let place = (place-fits which im old.0).1.1 in
    let inside = room which im old c.requires.image_in_bounds in
    let head = written_same (header_is which im) c.put_counts-head.ensures in
    let first = written_same (laid which im Component 1 refl) c.move_kind-components.ensures in
    let second = written_same (laid which im Label _ (label-place which im c.blocks_for-label_place.ensures.0)) c.move_kind-labels.ensures in
    record {
      fitted = (old.0.fitted, (old.1, omega (arith, c.blocks_for-label_place.ensures.0, c.blocks_for.ensures.0)));
      kind_in_bounds = rw (blocks-are which im User) (users-room (counts which im) (records which im) (sizes which im old) inside head first second);
    }

pub returns : goal.returns
unfolding new_image
returns g c =
    let which = g.S.Step.which in
    let im = c.args.image.now in
    let old = c.requires.counted in
    let inside = room which im old c.requires.image_in_bounds in
    let head = written_same (header_is which im) c.put_counts-head.ensures in
    let first = written_same (laid which im Component 1 refl) c.move_kind-components.ensures in
    let second = written_same (laid which im Label _ (label-place which im c.blocks_for-label_place.ensures.0)) c.move_kind-labels.ensures in
    let users = user-place which im c.blocks_for-label_place.ensures.0 c.blocks_for.ensures.0 in
    let third = written_same (laid which im User _ users) c.move_kind.ensures in
    image-written (counts which im) (records which im) (sizes which im old) inside head first second third
