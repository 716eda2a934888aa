use Rattle.std.proofs.Common.{Ok, Err}
use Rattle.refusals.specs.Answers.{Amount}
use Rattle.refusals.proofs.Passed.{err-passed}
use Prim.Native.Nat.{ℕ, ◌/◌}
use mathlib.Core.Path.{◌≡◌, sym, ap, ap₂, ◌∙◌, subst}
use mathlib.Core.List.{List}
use lib.ListN.{length}
use Rattle.header.specs.declared.edition.Edition.{Edition}
use Rattle.header.specs.declared.profile.Profile.{Profile}
use Rattle.header.specs.declared.counts.Counts.{Counts}
use Rattle.header.specs.declared.layout.Kind.{Kind}
use Rattle.header.specs.declared.layout.Kind.TheVariants.{Component, Label, User}
use Rattle.header.specs.Layout.{edition_named, profile_named, record_size}
use Rattle.records.specs.Rules.{run_records}
use Rattle.buffers.specs.Filling.{written_to}
use Rattle.writing.specs.Laid.{image_of, Fits, Limited}
use Rattle.writing.specs.Lent.{bytes_by, lent_records, lent_counts, lent_check}
use Rattle.writing.specs.Calls.{WriteAnswer, written_answer, lent_image, image_to, write_of}
use Rattle.records.proofs.Parts.{run-count}
use Rattle.writing.proofs.SoundLent.{sound-layout, sound-fits}
use Rattle.writing.proofs.write.Goals as goal

-- what is lent keeps every rule, and m are its counts
module _ (edition profile : ℕ) (bytes : Kind → List ℕ) (m : Counts)
    (is : m ≡ lent_counts (edition_named edition) (profile_named profile) (lent_records (edition_named edition) bytes Component)) where
  abbrev Ready : Counts → Type 0
  Ready n =
      Fits n (lent_records n.edition bytes)
      × Limited n (length (bytes User) / record_size n.edition User) (length (bytes Label) / record_size n.edition Label)

  counted : (kind : Kind) → length (lent_records (edition_named edition) bytes kind) ≡ length (bytes kind) / record_size (edition_named edition) kind
  counted kind = run-count (record_size (edition_named edition) kind) (bytes kind)

  ready : lent_check edition profile bytes ≡ Ok tt → Ready m
  ready sound =
      subst Ready (sym is) (sound-fits edition profile bytes sound, rw (← counted User, ← counted Label) (sound-layout edition profile bytes sound).limited)

  image-is : image_of m (lent_records m.edition bytes) ≡ lent_image edition profile bytes
  unfolding lent_image
  image-is = ap (λ (n : Counts). image_of n (lent_records n.edition bytes)) is

-- what is written is the answer's image
done : (buffer image : List ℕ) (r : Amount) (after : List ℕ) → (r, after) ≡ written_to buffer image
    → ◌≡◌ {A = WriteAnswer × List ℕ} (written_answer r, after) (image_to buffer image)
done buffer image r after e = ap {B = WriteAnswer × List ℕ} (λ (p : Amount × List ℕ). (written_answer p.0, p.1)) e

pub returns-in_err-lent_check : goal.returns-in_err-lent_check
unfolding write_of
returns-in_err-lent_check c = rw (err-passed _ c.from_residual.ensures.1, ← c.lent_check.ensures, c.in_err-lent_check.was)

pub write_image-requires : goal.write_image-requires
write_image-requires c =
    let a = c.args in
    let bytes = bytes_by a.components.now a.labels.now a.users.now in
    let is = c.lent_counts-counts.ensures
    ∙ ap₂ (λ (e : Edition) (p : Profile). lent_counts e p (run_records 40 a.components.now)) c.edition_named.ensures c.profile_named.ensures in
    let whole = ready a.edition a.profile bytes _ is (sym c.lent_check.ensures ∙ c.in_ok-lent_check.was) in
    record { fits = whole.0; limited = whole.1 }

pub returns-in_err-write_image : goal.returns-in_err-write_image
unfolding write_of
returns-in_err-write_image c =
    let a = c.args in
    let bytes = bytes_by a.components.now a.labels.now a.users.now in
    let is = c.lent_counts-counts.ensures
    ∙ ap₂ (λ (e : Edition) (p : Profile). lent_counts e p (run_records 40 a.components.now)) c.edition_named.ensures c.profile_named.ensures in
    let image = c.in_err-write_image.ensures ∙ ap (written_to a.buffer.now) (image-is a.edition a.profile bytes _ is) in
    rw (err-passed _ c.from_residual-in_err-write_image.ensures.1, sym c.lent_check.ensures ∙ c.in_ok-lent_check.was)
    (done a.buffer.now (lent_image a.edition a.profile bytes) (Err _) _ image)

pub returns : goal.returns
unfolding write_of
returns c =
    let a = c.args in
    let bytes = bytes_by a.components.now a.labels.now a.users.now in
    let is = c.lent_counts-counts.ensures
    ∙ ap₂ (λ (e : Edition) (p : Profile). lent_counts e p (run_records 40 a.components.now)) c.edition_named.ensures c.profile_named.ensures in
    let image = c.in_ok-write_image.ensures ∙ ap (written_to a.buffer.now) (image-is a.edition a.profile bytes _ is) in
    rw (sym c.lent_check.ensures ∙ c.in_ok-lent_check.was) (done a.buffer.now (lent_image a.edition a.profile bytes) (Ok _) _ image)
