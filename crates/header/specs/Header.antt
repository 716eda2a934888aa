-- The rules of an image's header. Each is a Boolean; MeaningHeader of records says what each means for places and bytes.
use Rattle.std.specs.Prelude.{ℕ, ◌*◌, Bool, ◌&&◌, ◌||◌, List, eqb, leb, length}
use Rattle.fields.specs.Bytes.{byte_at, part, all_zero}
use Rattle.header.specs.declared.edition.Edition.{Edition}
use Rattle.header.specs.declared.edition.Edition.TheVariants.{One, Two}
use Rattle.header.specs.declared.counts.Counts.{Counts}
use Rattle.header.specs.Layout.{edition_of, users, labels, counts_of, blocks_needed}
use Rattle.header.specs.Limits.{limits_in}

-- the edition is 1 or 2
abbrev pub known_edition : ℕ → Bool
known_edition byte = eqb byte 1 || eqb byte 2

abbrev pub edition_rule : List ℕ → Bool
edition_rule im = known_edition (byte_at im 4)

-- the profile is 0 or 1
abbrev pub known_profile : ℕ → Bool
known_profile byte = leb byte 1

abbrev pub profile_rule : List ℕ → Bool
profile_rule im = known_profile (byte_at im 12)

-- no count is past its limit, and there is a level
abbrev pub counts_within : Counts → ℕ → ℕ → Bool
counts_within n users labels =
    let most = limits_in n.edition in
    leb 1 n.levels && leb n.levels most.levels && leb n.compartments most.compartments
    && leb n.groups most.groups && leb users most.users && leb labels most.labels

unfoldable pub counts_rule : List ℕ → Bool
counts_rule im = counts_within (counts_of im) (users im) (labels im)

-- the bytes from 13 on are unused; in edition 2 byte 7 is, and the group count stands in bytes 14 and 15
abbrev pub unused_rule : Edition → List ℕ → Bool
unused_rule One im = all_zero (part im 13 497)
unused_rule Two im = eqb (byte_at im 7) 0 && all_zero (part im 13 1) && all_zero (part im 16 494)

-- kind 80, 0 records, a known edition and profile, counts within their limits, the rest unused
unfoldable pub header_rule : List ℕ → Bool
header_rule im =
    eqb (byte_at im 0) 80 && eqb (byte_at im 1) 0 && edition_rule im && profile_rule im && counts_rule im && unused_rule (edition_of im) im

-- there are as many blocks as the counts need, no more and no fewer
unfoldable pub fit_rule : List ℕ → Bool
fit_rule im = eqb (length im) (512 * blocks_needed im)
