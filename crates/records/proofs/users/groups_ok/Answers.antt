use Rattle.std.proofs.Common.{◌≡◌, ℕ, Bool, true, false, ap, ◌∙◌, arith}
use Rattle.sets.specs.Groups.{places_of}
use Rattle.sets.specs.Words.{word_of}
use Rattle.records.specs.Users.{four_within}
use Rattle.records.proofs.SetWords.{user-words-one, user-words-two}
use Rattle.records.proofs.users.groups_ok.Goals as goal

pub returns-then-not-words_exist : goal.returns-then-not-words_exist
returns-then-not-words_exist c =
    let a = c.args in
    let word : ℕ → ℕ → Bool = λ k n. four_within a.rec.now k 32 (word_of (places_of a.existing.groups) n) in
    let first : word 72 0 ≡ false = cc in
    let words = user-words-two a.rec.now (λ k. omega (arith, c.type_inv.rec k)) _ _ c.requires.0.groups in
    rw (c.in-Two.is, ← words, first)

pub returns-then-not-words_exist-2 : goal.returns-then-not-words_exist-2
returns-then-not-words_exist-2 c =
    let a = c.args in
    let word : ℕ → ℕ → Bool = λ k n. four_within a.rec.now k 32 (word_of (places_of a.existing.groups) n) in
    let first : word 72 0 ≡ true = cc in
    let second : word 80 1 ≡ false = cc in
    let words = user-words-two a.rec.now (λ k. omega (arith, c.type_inv.rec k)) _ _ c.requires.0.groups in
    rw (c.in-Two.is, ← words, first, second)

pub returns-then-not-words_exist-3 : goal.returns-then-not-words_exist-3
returns-then-not-words_exist-3 c =
    let a = c.args in
    let word : ℕ → ℕ → Bool = λ k n. four_within a.rec.now k 32 (word_of (places_of a.existing.groups) n) in
    let first : word 72 0 ≡ true = cc in
    let second : word 80 1 ≡ true = cc in
    let third : word 88 2 ≡ false = cc in
    let words = user-words-two a.rec.now (λ k. omega (arith, c.type_inv.rec k)) _ _ c.requires.0.groups in
    rw (c.in-Two.is, ← words, first, second, third)

pub returns-in-One : goal.returns-in-One
returns-in-One c =
    let a = c.args in
    let words = user-words-one a.rec.now (λ k. omega (arith, c.type_inv.rec k)) _ _ c.requires.0.groups in
    rw (c.in-One.is, ← words)
    (c.words_exist.ensures ∙ ap (four_within _ 72 8) c.word.ensures)

pub returns-else-not-words_exist-3 : goal.returns-else-not-words_exist-3
returns-else-not-words_exist-3 c =
    let a = c.args in
    let word : ℕ → ℕ → Bool = λ k n. four_within a.rec.now k 32 (word_of (places_of a.existing.groups) n) in
    let first : word 72 0 ≡ true = cc in
    let second : word 80 1 ≡ true = cc in
    let third : word 88 2 ≡ true = cc in
    let words = user-words-two a.rec.now (λ k. omega (arith, c.type_inv.rec k)) _ _ c.requires.0.groups in
    rw (c.in-Two.is, ← words, first, second, third)
    (c.words_exist-in-Two-4.ensures ∙ ap (four_within _ 96 32) c.word-in-Two-4.ensures)
