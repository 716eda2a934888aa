-- An image is accepted exactly if it keeps every rule, in words of places and bytes; names stand in byte order by the definition of that
-- order. Assumes nothing.
use Prim.Native.Nat.{ℕ, ◌≤◌, ◌<◌}
use mathlib.Core.Path.{◌≡◌, subst}
use mathlib.Core.Bool.{true, false}
use mathlib.Core.List.{List}
use mathlib.Core.Logic.{◌↔◌}
use Rattle.sets.specs.Sets.{has, within}
use Rattle.sets.proofs.Within.{within_has, has_within}
use Rattle.blocks.specs.Blocks.{block_count}
use Rattle.blocks.proofs.Meaning.{LengthKept, length-means, length-holds, BlockKept, block-means, block-holds}
use Rattle.header.specs.declared.layout.Kind.{Kind}
use Rattle.header.specs.declared.layout.Kind.TheVariants.{Component, Label, User}
use Rattle.header.specs.Layout as layout
use Rattle.header.specs.Layout.{profile_of, edition_of, groups, blocks_needed, Fitted, counts_of, count_of, records_of, user_record}
use Rattle.header.proofs.Inside.{record_of}
use Rattle.records.specs.Fields.{read_groups, write_groups, default_groups, row_groups}
use Rattle.records.specs.Rules.{record_rule}
use Rattle.records.proofs.MeaningHeader.{HeaderKept, header-means, header-holds, fit-means, fit-holds}
use Rattle.records.proofs.MeaningBlocks.{LayoutKept, content-means, contents-kept}
use Rattle.records.proofs.MeaningComponents.{ComponentAmong, component-holds}
use Rattle.records.proofs.MeaningLabels.{LabelAmong, label-holds}
use Rattle.records.proofs.MeaningUsers.{UserKept, UserAmong, user-holds}
use Rattle.hierarchy.specs.Forest.{ends_in}
use Rattle.hierarchy.specs.Below.{forest_of, has_parent, Above, below}
use Rattle.hierarchy.proofs.Lineage.{ends-top}
use Rattle.hierarchy.proofs.Walks.{top-ends}
use Rattle.hierarchy.proofs.Under.{below-above, above-below}
use Rattle.header.specs.declared.profile.Profile.{Profile}
use Rattle.header.specs.declared.profile.Profile.TheVariants.{Tree, Release}
use Rattle.image.specs.Check.{IsAccepted}
use Rattle.image.proofs.Accepted.{keeps, kept-accepted}
use Rattle.image.proofs.Policy.{BelowKept, ReleaseKept, SetsKept, sets-holds, component-among, label-among, user-among, user-sets}

-- every group of a is in b or has an ancestor in b, at any distance. (`Above im g p`: p is g or an ancestor of g.)
abbrev pub Under : List ℕ → ℕ → ℕ → Type 0
Under im a b = (g : ℕ) → has a g ≡ true → (p : ℕ) × (Above im g p × (has b p ≡ true))

-- a user's write and default groups lie in below(read), the row groups in below(default) and in below(write)
pub record GroupsUnder (im rec : List ℕ) : Type 0 where
  pub write_under_read : Under im (write_groups (edition_of im) rec) (read_groups (edition_of im) rec)
  pub default_under_read : Under im (default_groups (edition_of im) rec) (read_groups (edition_of im) rec)
  pub row_under_default : Under im (row_groups (edition_of im) rec) (default_groups (edition_of im) rec)
  pub row_under_write : Under im (row_groups (edition_of im) rec) (write_groups (edition_of im) rec)

-- in the release profile default groups contain the read groups and row groups the default groups, and write groups are the read groups
pub record GroupsReleased (im rec : List ℕ) : Type 0 where
  pub read_in_default : (g : ℕ) → has (read_groups (edition_of im) rec) g ≡ true → has (default_groups (edition_of im) rec) g ≡ true
  pub default_in_row : (g : ℕ) → has (default_groups (edition_of im) rec) g ≡ true → has (row_groups (edition_of im) rec) g ≡ true
  pub write_is_read : write_groups (edition_of im) rec ≡ read_groups (edition_of im) rec

-- by the profile
abbrev pub SetsUnder : Profile → List ℕ → List ℕ → Type 0
SetsUnder Tree = GroupsUnder
SetsUnder Release = GroupsReleased

pub record EveryRule (im : List ℕ) : Type 0 where
  -- the length is not 0, a multiple of 512 and at most 65,536
  pub length : LengthKept im
  -- each block's check is that of its bytes, and its place is its own
  pub blocks : (b : ℕ) → b < block_count im → BlockKept im b
  -- kind, edition, profile, counts within their limits, the rest unused; as many blocks as the counts need
  pub header : HeaderKept im
  pub fitted : Fitted im
  -- each block after the header: the kind and the number of records that the counts ask for, and unused bytes after them
  pub layouts : (b : ℕ) → 1 ≤ b → b < blocks_needed im → LayoutKept im b
  -- each record, by itself and among those before it
  pub components : (i : ℕ) → i < layout.components im → ComponentAmong (counts_of im) (records_of im Component) i
  pub labels : (k : ℕ) → k < layout.labels im → LabelAmong (counts_of im) (records_of im Label) k
  pub users : (u : ℕ) → u < layout.users im → UserAmong (counts_of im) (records_of im User) u
  -- following parents from any group reaches one that has none
  pub parents_end : (g : ℕ) → g < groups im → (p : ℕ) × (Above im g p × (has_parent im p ≡ false))
  -- each user's sets of groups among each other: they lie below one another, or contain one another
  pub group_sets : (u : ℕ) → u < layout.users im → SetsUnder (profile_of im) im (user_record im u)

module _ (im : List ℕ) where
  under-means : (a b : ℕ) → within a (below im b) ≡ true → Under im a b
  under-means a b e g h = below-above (forest_of im) b g (within_has a (below im b) e g h)

  under-kept : {rec : List ℕ} → BelowKept im rec → GroupsUnder im rec
  under-kept {rec} k =
      record {
        write_under_read = under-means (write_groups (edition_of im) rec) (read_groups (edition_of im) rec) k.write_below_read;
        default_under_read = under-means (default_groups (edition_of im) rec) (read_groups (edition_of im) rec) k.default_below_read;
        row_under_default = under-means (row_groups (edition_of im) rec) (default_groups (edition_of im) rec) k.row_below_default;
        row_under_write = under-means (row_groups (edition_of im) rec) (write_groups (edition_of im) rec) k.row_below_write;
      }

  -- the other way, where the parents of every group end and the groups exist
  under-holds : EveryRule im → (a b : ℕ) → ((g : ℕ) → has a g ≡ true → g < groups im) → Under im a b → within a (below im b) ≡ true
  under-holds e a b exist f =
      has_within a (below im b)
      (λ g h. let q = f g h in
      let p = e.parents_end g (exist g h) in
      above-below (forest_of im) b g q.0 (exist g h) (top-ends (forest_of im) g p.0 (exist g h) p.1.0 p.1.1) q.1.0 q.1.1)

  released-kept : {rec : List ℕ} → ReleaseKept im rec → GroupsReleased im rec
  released-kept {rec} k =
      record {
        read_in_default = within_has (read_groups (edition_of im) rec) (default_groups (edition_of im) rec) k.read_in_default;
        default_in_row = within_has (default_groups (edition_of im) rec) (row_groups (edition_of im) rec) k.default_in_row;
        write_is_read = k.write_is_read;
      }

  kept-released : {rec : List ℕ} → GroupsReleased im rec → ReleaseKept im rec
  kept-released {rec} k =
      record {
        read_in_default = has_within (read_groups (edition_of im) rec) (default_groups (edition_of im) rec) k.read_in_default;
        default_in_row = has_within (default_groups (edition_of im) rec) (row_groups (edition_of im) rec) k.default_in_row;
        write_is_read = k.write_is_read;
      }

  sets-kept : (rec : List ℕ) (p : Profile) → SetsKept p im rec → SetsUnder p im rec
  sets-kept rec Tree k = under-kept k
  sets-kept rec Release k = released-kept k

  kept_under : EveryRule im → (u : ℕ) → u < layout.users im → GroupsUnder im (user_record im u) → BelowKept im (user_record im u)
  kept_under e u h g =
      let rec : List ℕ = user_record im u in
      let k = (subst (UserKept (counts_of im)) (record_of im User u h) (e.users u h).kept).groups_kept in
      record {
        write_below_read = under-holds e (write_groups (edition_of im) rec) (read_groups (edition_of im) rec) k.write_exist g.write_under_read;
        default_below_read = under-holds e (default_groups (edition_of im) rec) (read_groups (edition_of im) rec) k.default_exist g.default_under_read;
        row_below_default = under-holds e (row_groups (edition_of im) rec) (default_groups (edition_of im) rec) k.row_exist g.row_under_default;
        row_below_write = under-holds e (row_groups (edition_of im) rec) (write_groups (edition_of im) rec) k.row_exist g.row_under_write;
      }

  kept_sets : EveryRule im → (u : ℕ) → u < layout.users im → (p : Profile) → SetsUnder p im (user_record im u) → SetsKept p im (user_record im u)
  kept_sets e u h Tree g = kept_under e u h g
  kept_sets e u h Release g = kept-released g

  pub accepted-keeps : IsAccepted im → EveryRule im
  unfolding ends_in
  accepted-keeps acc =
      let k = keeps im acc in
      record {
        length = length-means im k.length;
        blocks = λ b h. block-means im b (k.blocks b h);
        header = header-means im k.header;
        fitted = fit-means im k.fit;
        layouts = λ b low high. (content-means im b (k.contents b low high)).layout;
        components = component-among im acc;
        labels = label-among im acc;
        users = user-among im acc;
        parents_end = λ g h. ends-top (forest_of im) (groups im) g (k.ends g h);
        group_sets = λ u h. sets-kept (user_record im u) (profile_of im) (user-sets im acc u h);
      }

  record-holds : EveryRule im → (kind : Kind) (i : ℕ) → i < count_of im kind → record_rule im kind i ≡ true
  record-holds e Component i h = component-holds (counts_of im) (records_of im Component) i (e.components i h)
  record-holds e Label i h = label-holds (counts_of im) (records_of im Label) i (e.labels i h)
  record-holds e User i h = user-holds (counts_of im) (records_of im User) i (e.users i h)

  pub keeps-accepted : EveryRule im → IsAccepted im
  keeps-accepted e =
      kept-accepted im
      (record {
        length = length-holds im e.length;
        blocks = λ b h. block-holds im b (e.blocks b h);
        header = header-holds im e.header;
        fit = fit-holds im e.fitted;
        contents = λ b low high. contents-kept im (record-holds e) b low high (e.layouts b low high);
        ends = λ g h. let p = e.parents_end g h in top-ends (forest_of im) g p.0 h p.1.0 p.1.1;
        below = λ u h. sets-holds im u h (kept_sets e u h (profile_of im) (e.group_sets u h));
      })

  pub accepted-exactly : IsAccepted im ↔ EveryRule im
  accepted-exactly = (accepted-keeps, keeps-accepted)
