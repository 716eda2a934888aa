use Rattle.std.proofs.Common.{◌≡◌, ℕ, ◌+◌, Bool, true, false, ◌∙◌, ap₂, arith}
use Rattle.fields.specs.Bytes.{number8}
use Rattle.sets.specs.Groups.{places_of}
use Rattle.sets.specs.Sets.{within}
use Rattle.sets.specs.Words.{word_of}
use Rattle.records.proofs.SetWords.{one_word, four-words}
use Rattle.records.proofs.group_sets.groups_exist.Goals as goal

pub returns-then-not-within : goal.returns-then-not-within
returns-then-not-within c =
    let a = c.args in
    let word : ℕ → ℕ → Bool = λ k n. within (number8 a.rec.now k) (word_of (places_of a.all) n) in
    let first : word a.k 0 ≡ false = cc in
    let words = four-words a.rec.now (λ k. omega (arith, c.type_inv.rec k)) (places_of a.all) a.k in
    rw (c.in-Two.is, ← words, first)

pub returns-then-not-within-2 : goal.returns-then-not-within-2
returns-then-not-within-2 c =
    let a = c.args in
    let word : ℕ → ℕ → Bool = λ k n. within (number8 a.rec.now k) (word_of (places_of a.all) n) in
    let first : word a.k 0 ≡ true = cc in
    let second : word (a.k + 8) 1 ≡ false = cc in
    let words = four-words a.rec.now (λ k. omega (arith, c.type_inv.rec k)) (places_of a.all) a.k in
    rw (c.in-Two.is, ← words, first, second)

pub returns-then-not-within-3 : goal.returns-then-not-within-3
returns-then-not-within-3 c =
    let a = c.args in
    let word : ℕ → ℕ → Bool = λ k n. within (number8 a.rec.now k) (word_of (places_of a.all) n) in
    let first : word a.k 0 ≡ true = cc in
    let second : word (a.k + 8) 1 ≡ true = cc in
    let third : word (a.k + 8 + 8) 2 ≡ false = cc in
    let words = four-words a.rec.now (λ k. omega (arith, c.type_inv.rec k)) (places_of a.all) a.k in
    rw (c.in-Two.is, ← words, first, second, third)

pub returns-in-One : goal.returns-in-One
returns-in-One c =
    let a = c.args in
    rw (c.in-One.is, ← one_word a.rec.now (λ k. omega (arith, c.type_inv.rec k)) (places_of a.all) a.k)
    (c.within.ensures ∙ ap₂ within c.number8.ensures c.word.ensures)

pub returns-else-not-within-3 : goal.returns-else-not-within-3
returns-else-not-within-3 c =
    let a = c.args in
    let word : ℕ → ℕ → Bool = λ k n. within (number8 a.rec.now k) (word_of (places_of a.all) n) in
    let first : word a.k 0 ≡ true = cc in
    let second : word (a.k + 8) 1 ≡ true = cc in
    let third : word (a.k + 8 + 8) 2 ≡ true = cc in
    let words = four-words a.rec.now (λ k. omega (arith, c.type_inv.rec k)) (places_of a.all) a.k in
    rw (c.in-Two.is, ← words, first, second, third)
    (c.within-in-Two-4.ensures ∙ ap₂ within c.number8-in-Two-4.ensures c.word-in-Two-4.ensures)
