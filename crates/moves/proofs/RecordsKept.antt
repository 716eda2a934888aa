-- Records that keep the rules of edition 1 keep those of the new edition once they are moved: each by itself and among the others.
-- Assumes nothing.
use Prim.Native.Nat.{ℕ, ◌-◌, ◌≤◌, ◌<◌}
use mathlib.Core.Path.{◌≡◌, sym, ap, ap₂, ◌∙◌, subst}
use mathlib.Core.Bool.{cond}
use mathlib.Core.List.{List, map}
use mathlib.Core.Logic.{inl, inr, ⊎_elim}
use native.Mathlib.Omega.{arith}
use borrow.Author.Tests.{lt-ltb, eq-eqb}
use lib.Dec.{eqb}
use lib.ListN.{length}
use Rattle.fields.specs.Names.{name_in, name_before}
use Rattle.fields.proofs.Meaning.{NameKept}
use Rattle.header.specs.declared.edition.Edition.TheVariants.{One}
use Rattle.header.specs.declared.layout.Kind.{Kind}
use Rattle.header.specs.declared.layout.Kind.TheVariants.{Component, Label, User}
use Rattle.header.specs.declared.profile.Profile.{Profile}
use Rattle.header.specs.declared.profile.Profile.TheVariants.{Tree, Release}
use Rattle.header.specs.declared.counts.Counts.{Counts}
use Rattle.header.specs.Layout.{by_profile, record_size, class_first, class_at}
use Rattle.records.specs.Fields.{parent_of, no_parent, numeric_form, component_name, tag_of, user_name, privileges}
use Rattle.records.specs.Rules.{record_in, parent_count}
use Rattle.records.proofs.MeaningComponents.{ParentKept, ComponentKept, ComponentAmong}
use Rattle.records.proofs.MeaningLabels.{LabelKept, LabelAmong}
use Rattle.records.proofs.MeaningUsers.{PrivilegesKept, UserKept, UserAmong}
use Rattle.writing.specs.Laid.{counts_from, Sized}
use Rattle.moves.specs.declared.target.Move.{Move}
use Rattle.moves.specs.Moved.{edition_after, new_record}
use Rattle.moves.proofs.RecordsAlike.{held_after}
use Rattle.moves.proofs.Alike.{component-alike, component-unused, label-alike, label-byte, user-alike, user-byte, user-unused}
use Rattle.moves.proofs.NewImage.{map_at}
use Rattle.moves.proofs.HoldsSame.{wide-same}

-- ---- a record by itself
-- none stays none, and a group that exists stays that group
parent_up : (which : Move) (class count p : ℕ) → count ≤ 255 → ParentKept One class count p
    → ParentKept (edition_after which) class count (cond (eqb p 255) (no_parent (edition_after which)) p)
parent_up which class count p few =
    ⊎_elim (λ e. inl (rw (eq-eqb p 255 e)))
    (λ q. inr (q.0, rw (wide-same count p few which (lt-ltb p count q.1)) q.1))

component-up : (which : Move) (class count : ℕ) → count ≤ 255 → (rec : List ℕ) → length rec ≡ record_size One Component
    → ComponentKept One class count rec → ComponentKept (edition_after which) class count (new_record which Component rec)
component-up which class count few rec long k =
    let a = component-alike which rec long in
    record {
      classed = a.class ∙ k.classed;
      named = subst NameKept (sym a.name) k.named;
      numeric_limit = rw a.numeric k.numeric_limit;
      parent = subst (ParentKept (edition_after which) class count) (sym a.parent) (parent_up which class count (parent_of One rec) few k.parent);
      unused = component-unused which rec long k.unused;
    }

module _ (which : Move) (profile : Profile) (levels compartments groups : ℕ) where
  label-up : (rec : List ℕ) → length rec ≡ record_size One Label
      → LabelKept (counts_from One profile levels compartments groups) rec
      → LabelKept (counts_from (edition_after which) profile levels compartments groups) (new_record which Label rec)
  label-up rec long k =
      let a = label-alike which rec long in
      record {
        tag_some = rw a.tag k.tag_some;
        tag_limit = rw a.tag k.tag_limit;
        level_exists = rw a.level k.level_exists;
        unused = λ i low high. label-byte which rec long i (omega arith) ∙ k.unused i low high;
        compartments_exist = rw a.compartments k.compartments_exist;
        groups_exist = rw a.groups k.groups_exist;
      }

  user-up : (rec : List ℕ) → length rec ≡ record_size One User
      → PrivilegesKept (edition_after which) profile (held_after which (privileges rec)) → UserKept (counts_from One profile levels compartments groups) rec
      → UserKept (counts_from (edition_after which) profile levels compartments groups) (new_record which User rec)
  user-up rec long held k =
      let a = user-alike which rec long in
      let l = k.levels_kept in
      let c = k.compartments_kept in
      let g = k.groups_kept in
      record {
        named = subst NameKept (sym a.name) k.named;
        privileges_kept = subst (PrivilegesKept (edition_after which) profile) (sym a.held) held;
        unused_levels = λ i low high. user-byte which rec long i (omega arith) (omega arith) ∙ k.unused_levels i low high;
        unused_end = user-unused which rec long k.unused_end;
        levels_kept =
            record {
              minimum_row = rw (a.level_minimum, a.level_row) l.minimum_row;
              row_default = rw (a.level_row, a.level_default) l.row_default;
              default_maximum = rw (a.level_default, a.level_maximum) l.default_maximum;
              maximum_exists = rw a.level_maximum l.maximum_exists;
            };
        compartments_kept =
            record {
              read_exist = rw a.compartments_read c.read_exist;
              write_in_read = rw (a.compartments_write, a.compartments_read) c.write_in_read;
              default_in_read = rw (a.compartments_default, a.compartments_read) c.default_in_read;
              row_in_default = rw (a.compartments_row, a.compartments_default) c.row_in_default;
              row_in_write = rw (a.compartments_row, a.compartments_write) c.row_in_write;
            };
        groups_kept =
            record {
              read_exist = rw a.groups_read g.read_exist;
              write_exist = rw a.groups_write g.write_exist;
              default_exist = rw a.groups_default g.default_exist;
              row_exist = rw a.groups_row g.row_exist;
            };
      }

-- ---- among the others
-- what is read of a record in the new list
read_up : {A : Type 0} (f : List ℕ → A) (which : Move) (kind : Kind) (records : List (List ℕ)) → Sized (record_size One kind) records
    → ((rec : List ℕ) → length rec ≡ record_size One kind → f (new_record which kind rec) ≡ f rec)
    → (i : ℕ) → i < length records → f (record_in (map (new_record which kind) records) i) ≡ f (record_in records i)
read_up f which kind records sized same i h = ap f (map_at (new_record which kind) records i h) ∙ same (record_in records i) (sized i h)

module _ (which : Move) (profile : Profile) (levels compartments groups : ℕ) (records : List (List ℕ)) (i : ℕ) (here : i < length records) where
  abbrev one : Counts
  one = counts_from One profile levels compartments groups

  abbrev after : Counts
  after = counts_from (edition_after which) profile levels compartments groups

  parents-few : (p : Profile) → groups ≤ 255 → by_profile p groups 0 ≤ 255
  parents-few Tree h = h
  parents-few Release h = omega arith

  pub component-among-up : groups ≤ 255 → Sized (record_size One Component) records → ComponentAmong one records i
      → ComponentAmong after (map (new_record which Component) records) i
  unfolding class_first class_at
  component-among-up few sized a =
      let numeric = read_up numeric_form which Component records sized (λ rec long. (component-alike which rec long).numeric) in
      let name = read_up component_name which Component records sized (λ rec long. ap name_in (component-alike which rec long).name) in
      record {
        kept =
            subst (ComponentKept (edition_after which) (class_at after i) (parent_count after)) (sym (map_at (new_record which Component) records i here))
            (component-up which (class_at after i) (parent_count after) (parents-few profile few) (record_in records i) (sized i here) a.kept);
        rises = ⊎_elim (λ e. inl e) (λ l. inr (rw (numeric (i - 1) (omega arith), numeric i here) l)) a.rises;
        name_new = λ j low high e. a.name_new j low high (sym (name j (omega arith)) ∙ e ∙ name i here);
      }

  pub label-among-up : Sized (record_size One Label) records → LabelAmong one records i → LabelAmong after (map (new_record which Label) records) i
  label-among-up sized a =
      let tag = read_up tag_of which Label records sized (λ rec long. (label-alike which rec long).tag) in
      record {
        kept =
            subst (LabelKept after) (sym (map_at (new_record which Label) records i here))
            (label-up which profile levels compartments groups (record_in records i) (sized i here) a.kept);
        rises = ⊎_elim (λ e. inl e) (λ l. inr (rw (tag (i - 1) (omega arith), tag i here) l)) a.rises;
      }

  pub user-among-up : Sized (record_size One User) records → PrivilegesKept (edition_after which) profile (held_after which (privileges (record_in records i)))
      → UserAmong one records i → UserAmong after (map (new_record which User) records) i
  user-among-up sized held a =
      let name = read_up user_name which User records sized (λ rec long. ap name_in (user-alike which rec long).name) in
      record {
        kept =
            subst (UserKept after) (sym (map_at (new_record which User) records i here))
            (user-up which profile levels compartments groups (record_in records i) (sized i here) held a.kept);
        rises = ⊎_elim (λ e. inl e) (λ l. inr (ap₂ name_before (name (i - 1) (omega arith)) (name i here) ∙ l)) a.rises;
      }
