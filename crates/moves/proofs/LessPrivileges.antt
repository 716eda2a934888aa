-- What rights without COMPACCESS grant: all that they granted but what COMPACCESS alone gave. Assumes nothing.
use Prim.Native.Nat.{ℕ}
use mathlib.Core.Path.{◌≡◌, refl}
use mathlib.Core.Bool.{Bool, true, false, cond, ◌&&◌, ◌||◌, or-false}
use mathlib.Core.List.{List}
use native.Mathlib.Omega.{arith}
use Rattle.header.specs.declared.edition.Edition.{Edition}
use Rattle.header.specs.declared.edition.Edition.TheVariants.{One, Two}
use Rattle.header.specs.Layout.{edition_of}
use Rattle.image.specs.Lookup.{label_of_tag}
use Rattle.labels.specs.Label.{Marks, label_at}
use Rattle.access.specs.Rights.{Rights, with_privileges}
use Rattle.access.specs.Verdicts.{reads_all, writes_all, holds_compaccess, read_level_rule, read_groups_rule, read_compartments_rule}
use Rattle.access.specs.Verdicts.{compaccess_reads, read_tests, reads_label}
use Rattle.access.specs.Verdicts.{write_level_rule, write_groups_rule, write_compartments_rule, write_sets_rule, compaccess_writes}
use Rattle.access.specs.Verdicts.{write_tests, writes_label, tree_sets_rule, release_sets_rule}
use Rattle.access.specs.Verdicts.{known_tag, unknown_rule, may_read, may_write}
use Rattle.moves.specs.Moved.{without_compaccess}
use Rattle.moves.proofs.CompaccessBits.{bit-gone, bit-stays}

-- the same rights without COMPACCESS
abbrev pub cleared : Rights → Rights
cleared rights = with_privileges (without_compaccess rights.privileges) rights

-- what COMPACCESS gives on a tag that a label carries
abbrev pub adds_reading : List ℕ → Rights → ℕ → Bool
adds_reading im rights tag = known_tag im tag && compaccess_reads rights (label_at im (label_of_tag im tag))

abbrev pub adds_writing : List ℕ → Rights → ℕ → Bool
adds_writing im rights tag = known_tag im tag && compaccess_writes rights (label_at im (label_of_tag im tag))

apart : (x p k : Bool) → (x || (p || k)) ≡ (x || (p || false) || k)
apart true p k = refl
apart false true k = refl
apart false false k = refl

module _ (rights : Rights) where
  all_read : reads_all (cleared rights) ≡ reads_all rights
  unfolding reads_all
  all_read = rw (bit-stays rights.privileges 0 (λ e. omega arith), bit-stays rights.privileges 1 (λ e. omega arith))

  all-written : writes_all (cleared rights) ≡ writes_all rights
  unfolding writes_all
  all-written = rw (bit-stays rights.privileges 1 (λ e. omega arith))

  none-held : holds_compaccess (cleared rights) ≡ false
  unfolding holds_compaccess
  none-held = bit-gone rights.privileges

  pub less-read : (row : Marks) → reads_label rights row ≡ (reads_label (cleared rights) row || compaccess_reads rights row)
  unfolding reads_label read_tests compaccess_reads read_level_rule read_groups_rule read_compartments_rule
  less-read row =
      rw (all_read, none-held)
      (apart (reads_all rights) (read_level_rule rights row && read_groups_rule rights row && read_compartments_rule rights row) (compaccess_reads rights row))

  pub less-written : (row : Marks) → writes_label rights row ≡ (writes_label (cleared rights) row || compaccess_writes rights row)
  unfolding writes_label write_tests compaccess_writes write_level_rule write_sets_rule tree_sets_rule release_sets_rule write_groups_rule
      write_compartments_rule read_compartments_rule read_groups_rule
  less-written row =
      rw (all-written, none-held)
      (apart (writes_all rights) (write_level_rule rights row && write_sets_rule rights row) (compaccess_writes rights row))

  -- ---- on a tag
  module _ (im : List ℕ) (tag : ℕ) where
    pub less-reads : may_read im rights tag ≡ (may_read im (cleared rights) tag || adds_reading im rights tag)
    unfolding may_read
    less-reads = at (known_tag im tag) (edition_of im)
      where
        label : Marks
        label = label_at im (label_of_tag im tag)

        at : (t : Bool) (e : Edition) → cond t (reads_label rights label) (unknown_rule e (reads_all rights))
            ≡ (cond t (reads_label (cleared rights) label) (unknown_rule e (reads_all (cleared rights))) || (t && compaccess_reads rights label))
        at true e = less-read label
        at false One = rw (all_read, or-false (reads_all rights))
        at false Two = refl

    pub less-writes : may_write im rights tag ≡ (may_write im (cleared rights) tag || adds_writing im rights tag)
    unfolding may_write
    less-writes = at (known_tag im tag) (edition_of im)
      where
        label : Marks
        label = label_at im (label_of_tag im tag)

        at : (t : Bool) (e : Edition) → cond t (writes_label rights label) (unknown_rule e (writes_all rights))
            ≡ (cond t (writes_label (cleared rights) label) (unknown_rule e (writes_all (cleared rights))) || (t && compaccess_writes rights label))
        at true e = less-written label
        at false One = rw (all-written, or-false (writes_all rights))
        at false Two = refl
