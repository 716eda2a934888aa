use Rattle.std.proofs.Common.{◌≡◌, sym, ap, ◌∙◌, arith}
use Rattle.fields.specs.Names.{name_rule}
use Rattle.fields.proofs.NameBytes.{field-window}
use Rattle.records.specs.Fields.{user_name_field}
use Rattle.records.specs.Rules.{user_shape}
use Rattle.records.proofs.users.shape_ok.Goals as goal

pub returns-then-not-name_ok : goal.returns-then-not-name_ok
unfolding user_shape
returns-then-not-name_ok c =
    let name-told : c.name_ok.result ≡ name_rule (user_name_field c.args.rec.now) =
    c.name_ok.ensures ∙ ap name_rule (field-window c.args.rec.now 0 (omega (arith, c.requires.1.1))) in
    rw (sym name-told ∙ c.if-not-name_ok.true)

pub returns-then-not-privileges_ok : goal.returns-then-not-privileges_ok
unfolding user_shape
returns-then-not-privileges_ok c =
    let name-told : c.name_ok.result ≡ name_rule (user_name_field c.args.rec.now) =
    c.name_ok.ensures ∙ ap name_rule (field-window c.args.rec.now 0 (omega (arith, c.requires.1.1))) in
    rw (sym name-told ∙ c.if-not-name_ok.false, sym c.privileges_ok.ensures ∙ c.if-not-privileges_ok.true)

pub returns-then-not-unused_ok : goal.returns-then-not-unused_ok
unfolding user_shape
returns-then-not-unused_ok c =
    let name-told : c.name_ok.result ≡ name_rule (user_name_field c.args.rec.now) =
    c.name_ok.ensures ∙ ap name_rule (field-window c.args.rec.now 0 (omega (arith, c.requires.1.1))) in
    rw (
      sym name-told ∙ c.if-not-name_ok.false,
      sym c.privileges_ok.ensures ∙ c.if-not-privileges_ok.false,
      sym c.unused_ok.ensures ∙ c.if-not-unused_ok.true,
    )

pub returns-then-not-levels_ok : goal.returns-then-not-levels_ok
unfolding user_shape
returns-then-not-levels_ok c =
    let name-told : c.name_ok.result ≡ name_rule (user_name_field c.args.rec.now) =
    c.name_ok.ensures ∙ ap name_rule (field-window c.args.rec.now 0 (omega (arith, c.requires.1.1))) in
    rw (
      sym name-told ∙ c.if-not-name_ok.false,
      sym c.privileges_ok.ensures ∙ c.if-not-privileges_ok.false,
      sym c.unused_ok.ensures ∙ c.if-not-unused_ok.false,
      sym c.levels_ok.ensures ∙ c.if-not-levels_ok.true,
    )

pub returns-then-not-compartments_ok : goal.returns-then-not-compartments_ok
unfolding user_shape
returns-then-not-compartments_ok c =
    let name-told : c.name_ok.result ≡ name_rule (user_name_field c.args.rec.now) =
    c.name_ok.ensures ∙ ap name_rule (field-window c.args.rec.now 0 (omega (arith, c.requires.1.1))) in
    rw (
      sym name-told ∙ c.if-not-name_ok.false,
      sym c.privileges_ok.ensures ∙ c.if-not-privileges_ok.false,
      sym c.unused_ok.ensures ∙ c.if-not-unused_ok.false,
      sym c.levels_ok.ensures ∙ c.if-not-levels_ok.false,
      sym c.compartments_ok.ensures ∙ c.if-not-compartments_ok.true,
    )

pub returns : goal.returns
unfolding user_shape
returns c =
    let name-told : c.name_ok.result ≡ name_rule (user_name_field c.args.rec.now) =
    c.name_ok.ensures ∙ ap name_rule (field-window c.args.rec.now 0 (omega (arith, c.requires.1.1))) in
    rw (
      sym name-told ∙ c.if-not-name_ok.false,
      sym c.privileges_ok.ensures ∙ c.if-not-privileges_ok.false,
      sym c.unused_ok.ensures ∙ c.if-not-unused_ok.false,
      sym c.levels_ok.ensures ∙ c.if-not-levels_ok.false,
      sym c.compartments_ok.ensures ∙ c.if-not-compartments_ok.false,
    )
    c.groups_ok.ensures
