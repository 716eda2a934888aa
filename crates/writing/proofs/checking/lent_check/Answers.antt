use Rattle.std.proofs.Common.{Err}
use Prim.Native.Nat.{ℕ, ◌≤◌}
use mathlib.Core.Path.{◌≡◌, sym, ap, ap₂, ◌∙◌, subst}
use mathlib.Core.Bool.{true, false}
use mathlib.Core.List.{List}
use Rattle.sets.specs.Groups.{width}
use Rattle.header.specs.declared.edition.Edition.{Edition}
use Rattle.header.specs.declared.profile.Profile.{Profile}
use Rattle.header.specs.declared.counts.Counts.{Counts}
use Rattle.header.specs.declared.layout.Kind.{Kind}
use Rattle.header.specs.declared.layout.Kind.TheVariants.{Component}
use Rattle.header.specs.Layout.{edition_named, profile_named}
use Rattle.records.specs.Rules.{run_records}
use Rattle.writing.specs.declared.answers.LentFault.TheVariants.{Layout}
use Rattle.writing.specs.Lent.{LentParts, bytes_by, lent_records, lent_counts, lent_layout_rule, records_check, lent_check}
use Rattle.writing.proofs.LentLayout.{layout-means, limited-sets, limited-levels}
use Rattle.writing.proofs.checking.lent_check.Goals as goal

-- by the rule of 31
module _ (edition profile : ℕ) (bytes : Kind → List ℕ) where
  layout-bad : lent_layout_rule edition profile bytes ≡ false → lent_check edition profile bytes ≡ Err Layout
  unfolding lent_check
  layout-bad e = rw e

  layout-good : lent_layout_rule edition profile bytes ≡ true → (n : Counts)
      → n ≡ lent_counts (edition_named edition) (profile_named profile) (lent_records (edition_named edition) bytes Component)
      → records_check n (lent_records n.edition bytes) ≡ lent_check edition profile bytes
  unfolding lent_check
  layout-good e n is = rw e (ap (λ (m : Counts). records_check m (lent_records m.edition bytes)) is)

-- the counts by the edition and the profile that they hold
own-counts : (n : Counts) (edition : Edition) (profile : Profile) (components : List (List ℕ)) → n ≡ lent_counts edition profile components
    → n ≡ lent_counts n.edition n.profile components
own-counts n edition profile components e =
    e ∙ ap₂ (λ (a : Edition) (b : Profile). lent_counts a b components) (sym (ap (λ (m : Counts). m.edition) e)) (sym (ap (λ (m : Counts). m.profile) e))

pub returns-then-not-layout_fits : goal.returns-then-not-layout_fits
returns-then-not-layout_fits c =
    let a = c.args in
    sym (layout-bad a.edition a.profile (bytes_by a.lent.components.now a.lent.labels.now a.lent.users.now)
    (sym c.layout_fits.ensures ∙ c.if-not-layout_fits.true))

pub existing_by-requires : goal.existing_by-requires
existing_by-requires c =
    let a = c.args in
    let held = layout-means a.edition a.profile (bytes_by a.lent.components.now a.lent.labels.now a.lent.users.now)
    (sym c.layout_fits.ensures ∙ c.if-not-layout_fits.false) in
    let is = c.lent_counts-counts.ensures
    ∙ ap₂ (λ (e : Edition) (p : Profile). lent_counts e p (run_records 40 a.lent.components.now)) c.edition_named.ensures c.profile_named.ensures in
    subst (λ (m : Counts). (m.compartments ≤ 64) × (m.groups ≤ width)) (sym is) (limited-sets _ _ _ held.limited)

pub records_check-requires : goal.records_check-requires
records_check-requires c =
    let a = c.args in
    let bytes = bytes_by a.lent.components.now a.lent.labels.now a.lent.users.now in
    let held = layout-means a.edition a.profile bytes (sym c.layout_fits.ensures ∙ c.if-not-layout_fits.false) in
    let is = c.existing_by.ensures.1 ∙ c.lent_counts-counts.ensures in
    let named-is = is
    ∙ ap₂ (λ (e : Edition) (p : Profile). lent_counts e p (run_records 40 a.lent.components.now)) c.edition_named.ensures c.profile_named.ensures in
    record {
      exist = (c.existing_by.ensures.0, own-counts _ _ _ _ is);
      levels_bound =
          subst (λ (m : Counts). (m.levels ≤ 256) × LentParts m.edition bytes) (sym named-is) (limited-levels _ _ _ held.limited, held.whole);
    }

pub returns : goal.returns
returns c =
    let a = c.args in
    let bytes = bytes_by a.lent.components.now a.lent.labels.now a.lent.users.now in
    let is = c.existing_by.ensures.1 ∙ c.lent_counts-counts.ensures
    ∙ ap₂ (λ (e : Edition) (p : Profile). lent_counts e p (run_records 40 a.lent.components.now)) c.edition_named.ensures c.profile_named.ensures in
    c.records_check.ensures
    ∙ layout-good a.edition a.profile bytes (sym c.layout_fits.ensures ∙ c.if-not-layout_fits.false) _ is
