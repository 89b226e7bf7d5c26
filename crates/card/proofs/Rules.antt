-- The rule that a command asks, read in the pool (specs/Rules, specs/Bodies).
use mathlib.Core.Path.{◌≡◌, refl, sym, ap, ◌∙◌}
use mathlib.Core.Bool.{Bool, true, false, cond, ◌&&◌}
use mathlib.Core.List.{List, [], ◌++◌}
use mathlib.Core.Logic.{⊎_elim}
use Prim.Native.Nat.{ℕ, suc, ◌+◌, ◌*◌, ◌-◌, ◌<◌, ◌≤◌}
use native.Mathlib.Nat.{suc-mul}
use native.Mathlib.Omega.{arith}
use lib.Dec.{eqb, leb, ltb}
use lib.ListN.{length, get_or, drop_of_length-le}
use borrow.Author.Tests.{eq-eqb, ne_eqb, eqb-true, le-leb, lt-ltb, ltb-true, leb-true}
use Rattle.std.specs.Prelude.{Some, None}
use Rattle.laws.specs.Lists.{part}
use Rattle.laws.proofs.Says.{and-says, lt-or, same_or}
use Rattle.laws.proofs.Splices.{part-part}
use Rattle.rules.specs.declared.Right.{Right}
use Rattle.rules.specs.declared.Sets.{Sets}
use Rattle.rules.specs.Descriptor.{ef, structure_of}
use Rattle.image.specs.Layout.{base, has_bodies, forms_of, version_of, count_of, rec_at, kind_of, descriptor_of, form_of, record_length_of, size_of}
use Rattle.expanded.specs.Expanded.{expanded_formed, expanded_grants}
use Rattle.access.specs.declared.Decision.TheVariants.{Closed}
use Rattle.access.specs.Access.{referred, expanded, asked_as, granted_of}
use Rattle.access.specs.Decision.{decision_of}
use Rattle.access.proofs.Fits.{fits-says}
use Rattle.pool.specs.Bodies.{body_of, body_at, start_at, body_bytes}
use Rattle.pool.specs.Records.{has_record}
use Rattle.sound.specs.Sound.{Sound}
use Rattle.referred.specs.declared.Place.TheVariants.{InImage}
use Rattle.referred.specs.Padding.{unpadded}
use Rattle.referred.specs.Deciding.{named_record_of, is_linear, row_at, held_place, referred_place, own_place, place_of, end_of, part_of, deciding_rule}
use Rattle.referred.proofs.Held.{held-rule, rule_alike}
use Rattle.referred.proofs.Ticket.{taken, denied-empty}
use Rattle.referred.proofs.OneRule.{unpadded_is}
use Rattle.judge_target.proofs.FromSound.{child_stands}
use Rattle.judge_target.specs.Target.{form_at, rule_at, allowed_at, decision_at}
use Rattle.card.specs.Command.{PoolFits}
use Rattle.card.specs.Rules.{record_now, Ruled, RuleOfTheMoment, DenialsClosed}
use Rattle.card.proofs.Tells.{lies}

-- a version with a third form has bodies
third-bodies : (v : ℕ) → 2 < forms_of v → has_bodies v ≡ true
unfolding forms_of has_bodies
third-bodies v h = go (eqb v 1) (eqb v 2) (eqb v 3) h
  where
    go : (a b c : Bool) → 2 < cond a 1 (cond b 2 (cond c 3 0)) → c ≡ true
    go true b c q = absurd (omega (arith, q))
    go false true c q = absurd (omega (arith, q))
    go false false true q = refl
    go false false false q = absurd (omega (arith, q))

-- past the end of the image no record has a form
past_end : (img : List ℕ) (s : ℕ) → length img ≤ base s → form_of (rec_at img s) ≡ 0
unfolding form_of rec_at part
past_end img s h = rw (drop_of_length-le img h)

module _ (img : List ℕ) (sound : Sound img) where
  -- only a card with bodies has a referred rule
  record_bodies : (s : ℕ) → s < count_of img → form_of (rec_at img s) ≡ referred → has_bodies (version_of img) ≡ true
  unfolding form_of
  record_bodies s l e = ⊎_elim
      (λ z. absurd (omega (arith, e, (sound.records s l).free z 3 (omega arith))))
      (λ z. third-bodies (version_of img) (omega (arith, e, ((fits-says _ _ _).0 ((sound.records s l).used z).formed).known)))
      (same_or (kind_of (rec_at img s)) 0)

  pub referred-bodies : (s : ℕ) → form_of (rec_at img s) ≡ referred → has_bodies (version_of img) ≡ true
  referred-bodies s e = ⊎_elim (λ l. record_bodies s l e) (λ l. absurd (past l)) (lt-or s (count_of img))
    where
      past : count_of img ≤ s → ⊥
      past l = omega (arith, e, past_end img s (omega (arith, l, sound.header.long)))

-- a record that is there is a part of the body
module _ (img pool : List ℕ) (sound : Sound img) (fit : PoolFits img pool) (has : has_bodies (version_of img) ≡ true) (t k : ℕ) (low : t < count_of img)
    (there : (is_linear (rec_at img t) && has_record img t k) ≡ true) where
  whole : body_at img t ≡ size_of (rec_at img t)
  unfolding body_at body_of is_linear
  whole =
      let p = (and-says (eqb (kind_of (rec_at img t)) ef) (eqb (structure_of (descriptor_of (rec_at img t))) 2)).0
      ((and-says (is_linear (rec_at img t)) (has_record img t k)).0 there).0 in
      rw (has, p.0)

  file : kind_of (rec_at img t) ≡ 0 → ⊥
  unfolding is_linear
  file e =
      let p = (and-says (eqb (kind_of (rec_at img t)) ef) (eqb (structure_of (descriptor_of (rec_at img t))) 2)).0
      ((and-says (is_linear (rec_at img t)) (has_record img t k)).0 there).0 in
      omega (arith, e, eqb-true (kind_of (rec_at img t)) ef p.0)

  number-says : (ltb 0 k ≡ true) × (leb (k * record_length_of (rec_at img t)) (size_of (rec_at img t)) ≡ true)
  unfolding has_record
  number-says = (and-says _ _).0 ((and-says (is_linear (rec_at img t)) (has_record img t k)).0 there).1

  pub row_in_body : row_at img pool t k ≡ record_now img pool t k
  unfolding body_bytes start_at
  row_in_body =
      sym (part-part pool (start_at img t) (body_at img t) ((k - 1) * z) z ((lies img pool sound fit).inside t low some) (omega (arith, whole, times, last)))
    where
      z : ℕ
      z = record_length_of (rec_at img t)

      number : (ltb 0 k ≡ true) × (leb (k * z) (size_of (rec_at img t)) ≡ true)
      number = number-says

      last : k * z ≤ size_of (rec_at img t)
      last = leb-true (k * z) (size_of (rec_at img t)) number.1

      times : (k - 1) * z + z ≡ k * z
      times = let e : suc (k - 1) ≡ k = omega (arith, ltb-true 0 k number.0) in sym (suc-mul (k - 1) z) ∙ ap (λ (j : ℕ). j * z) e

      some : 0 < body_at img t
      some = omega (arith, whole, ((sound.records t low).used file).size)

-- a referred rule is asked as an expanded one
asked-expanded : (img : List ℕ) (s : ℕ) → form_of (rec_at img s) ≡ referred → form_at img s ≡ expanded
unfolding asked_as
asked-expanded img s e = rw (eq-eqb (form_of (rec_at img s)) referred e)

-- a record that the rule names: it decides
module _ (img pool : List ℕ) (s t : ℕ) (r : List ℕ) (sound : Sound img) (fit : PoolFits img pool) (h : Ruled img pool s t r) where
  there : (is_linear (rec_at img t) && has_record img t (named_record_of (rec_at img s))) ≡ true
  unfolding has_record
  there = rw (
    h.linear,
    lt-ltb 0 (named_record_of (rec_at img s)) h.first,
    le-leb (named_record_of (rec_at img s) * record_length_of (rec_at img t)) (size_of (rec_at img t)) h.last,
  )

  row : row_at img pool t (named_record_of (rec_at img s)) ≡ r ++ h.held.padding
  row =
      row_in_body img pool sound fit (referred-bodies img sound s h.names.form) t (named_record_of (rec_at img s))
      (child_stands img (count_of img) _ _ t h.names.found.here).low there
      ∙ h.held.whole

  rule : rule_at img pool s ≡ r
  unfolding deciding_rule
  rule =
      ap (part_of img pool) (taken (count_of img) img pool s t h.names
      ∙ ap (λ (b : Bool). cond b None (held_place img pool t (named_record_of (rec_at img s)))) (ne_eqb t s h.other))
      ∙ held-rule img pool t (named_record_of (rec_at img s))
      ∙ ap (λ (b : Bool). cond b (unpadded (row_at img pool t (named_record_of (rec_at img s)))) []) there
      ∙ ap unpadded row ∙ unpadded_is r h.held.padding h.held.formed h.held.only

pub rule_of_the_moment : RuleOfTheMoment
unfolding allowed_at decision_at
rule_of_the_moment img pool s t r sound fit h =
    let e = rule img pool s t r sound fit h in
    let f = asked-expanded img s h.names.form in (
      e,
      λ right x. (
        ap (λ (l : List ℕ). granted_of (form_at img s) l right x) e ∙ ap (λ (z : ℕ). granted_of z r right x) f,
        ap (λ (l : List ℕ). decision_of (form_at img s) l right x) e ∙ ap (λ (z : ℕ). decision_of z r right x) f,
      ),
    )

-- an empty rule grants nothing, whatever is authenticated
empty-closed : (right : Right) (x : Sets) → decision_of expanded [] right x ≡ Closed
unfolding decision_of granted_of expanded_grants expanded_formed
empty-closed right x = refl

-- a rule in its own record stands somewhere
own_stands : (img pool : List ℕ) (s : ℕ) → place_of (count_of img) img pool s ≡ None → form_of (rec_at img s) ≡ referred
unfolding place_of own_place
own_stands img pool s e = go (eqb (form_of (rec_at img s)) referred) refl e
  where
    go : (b : Bool) → eqb (form_of (rec_at img s)) referred ≡ b
        → cond b (referred_place (count_of img) img pool s) (Some (InImage (base s + 34) (base s + 34 + get_or (rec_at img s) 33 0))) ≡ None
        → form_of (rec_at img s) ≡ referred
    go true q f = eqb-true (form_of (rec_at img s)) referred q
    go false q f = absurd (omega (arith, ap end_of f))

pub denials_closed : DenialsClosed
unfolding decision_at
denials_closed img pool s right x e =
    ap (λ (l : List ℕ). decision_of (form_at img s) l right x) (denied-empty (count_of img) img pool s e)
    ∙ ap (λ (z : ℕ). decision_of z [] right x) (asked-expanded img s (own_stands img pool s e))
    ∙ empty-closed right x

-- where every rule stands in its own record, no byte of the pool tells
pub own_alike : (img pool other : List ℕ) → ((s : ℕ) → form_of (rec_at img s) ≡ referred → ⊥) → (s : ℕ) → rule_at img pool s ≡ rule_at img other s
own_alike img pool other z s = rule_alike (count_of img) img pool other s (λ e. absurd (z s e))

-- the same in all bodies: the same rules
pub bodies_alike : (img pool other : List ℕ) → Sound img → PoolFits img pool → PoolFits img other
    → ((s : ℕ) → s < count_of img → body_bytes img pool s ≡ body_bytes img other s) → (s : ℕ) → rule_at img pool s ≡ rule_at img other s
bodies_alike img pool other sound fit fits same s =
    rule_alike (count_of img) img pool other s
    (λ e t low there.
    let has = referred-bodies img sound s e in
    let k : ℕ = named_record_of (rec_at img s) in
    let z : ℕ = record_length_of (rec_at img t) in
    row_in_body img pool sound fit has t k low there ∙ ap (λ (l : List ℕ). part l ((k - 1) * z) z) (same t low)
    ∙ sym (row_in_body img other sound fits has t k low there))
