-- What a walk over the blocks of one kind finds, and what it knows on the way.
use Rattle.std.specs.Prelude.{◌≡◌, ℕ, ◌+◌, ◌-◌, ◌*◌, ◌<◌, ◌≤◌, true, false, List, length, Option, Some, None}
use Rattle.header.specs.declared.layout.Kind.{Kind}
use Rattle.header.specs.declared.layout.Kind.TheVariants.{Component}
use Rattle.header.specs.Layout.{edition_of, counts_of, record_size, blocks_of, first_block, records_of, contents_of}
use Rattle.records.specs.declared.kinds.Found.{Found}
use Rattle.records.specs.declared.kinds.Found.TheVariants as found
use Rattle.records.specs.Rules.{record_in, run_record, layout_rule, first_bad_record, content_rule}
use Rattle.records.specs.Fresh.{NamesKept, Marked}

-- b is a block of the kind
pub record OfKind (im : List ℕ) (kind : Kind) (b : ℕ) : Type 0 where
  pub low : first_block im kind ≤ b
  pub high : b < first_block im kind + blocks_of im kind

-- the run holds the records of the places from `from` up to `to`
pub record RunOf (im : List ℕ) (kind : Kind) (from to : ℕ) (run : List ℕ) : Type 0 where
  pub long : length run ≡ record_size (edition_of im) kind * (to - from)
  pub same : (q : ℕ) → q < to - from → run_record (record_size (edition_of im) kind) run q ≡ record_in (records_of im kind) (from + q)

-- every block of the kind before b keeps its rule
abbrev pub KeptUpto : List ℕ → Kind → ℕ → Type 0
KeptUpto im kind b = (c : ℕ) → first_block im kind ≤ c → c < b → content_rule im c ≡ true

-- b is the first block of the kind that breaks a rule, and it breaks that of its layout
pub record LayoutBad (im : List ℕ) (kind : Kind) (b : ℕ) : Type 0 where
  pub block : OfKind im kind b
  pub before : KeptUpto im kind b
  pub bad : layout_rule im b ≡ false

-- b is the first, its layout is right, and the lowest record that breaks a rule is the one at place r of the block
pub record RecordBad (im : List ℕ) (kind : Kind) (b r : ℕ) : Type 0 where
  pub block : OfKind im kind b
  pub before : KeptUpto im kind b
  pub laid : layout_rule im b ≡ true
  pub bad : content_rule im b ≡ false
  pub place : first_bad_record im b ≡ (contents_of im b).from + r

abbrev pub FoundIn : List ℕ → Kind → Option Found → Type 0
FoundIn im kind None = KeptUpto im kind (first_block im kind + blocks_of im kind)
FoundIn im kind (Some (found.Layout b)) = LayoutBad im kind b
FoundIn im kind (Some (found.Record b r)) = RecordBad im kind b r

-- what the walk knows at the record of place i. Of components, each name up to there keeps the rule of its field, and those of its class are
-- marked in the filter
pub record Passed (im : List ℕ) (kind : Kind) (i : ℕ) (filter : List ℕ) : Type 0 where
  pub names : kind ≡ Component → NamesKept (records_of im Component) i
  pub marks : kind ≡ Component → Marked (counts_of im) (records_of im Component) i filter
