-- A tag looked for by halves, step by step.
use Rattle.std.specs.Prelude.{ℕ, zero, suc, ◌+◌, ◌-◌, ◌^◌, cond, List, eqb, ltb}
use Rattle.header.specs.Layout.{labels, label_record}
use Rattle.records.specs.Fields.{tag_of}

-- the label record that carries the tag, looked for in n steps among the 2 ^ n - 1 places from `low` on; the number of labels where none is
-- found. A step reads one record, that in the middle of these places. Where its tag is below the given one the search goes on after the
-- middle, where the tags are equal it ends, and where its tag is above it goes on before the middle. A middle past the last label is not
-- read, and the search goes on before it
unfoldable pub search_within : List ℕ → ℕ → ℕ → ℕ → ℕ
search_within im tag zero low = labels im
search_within im tag (suc n) low =
    let middle = low + 2 ^ n - 1 in
    let found = tag_of (label_record im middle) in
    let after = search_within im tag n (middle + 1) in
    let before = search_within im tag n low in
    cond (ltb middle (labels im)) (cond (ltb found tag) after (cond (eqb found tag) middle before)) before

-- so many steps settle the most labels that an image may have
abbrev pub search_steps : ℕ
search_steps = 11

-- the search among all labels
unfoldable pub search_tag : List ℕ → ℕ → ℕ
search_tag im tag = search_within im tag search_steps 0
