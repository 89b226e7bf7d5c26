-- Objects that a loop passes by a constant: what stands at a place, and how the loops go on behind it.
use mathlib.Core.Path.{◌≡◌, refl, sym, ◌∙◌, ap}
use mathlib.Core.Bool.{Bool, true, false, not, false≢true}
use mathlib.Core.List.{List, []}
use Prim.Native.Nat.{ℕ, zero, suc, ◌+◌, ◌-◌, ◌<◌, ◌≤◌}
use native.Mathlib.Omega.{arith}
use lib.ListN.{length, get_or, take, drop, length-drop}
use lib.Seq.{length-take-le, get_or-take, get_or-drop}
use lib.Dec.{eqb, ltb}
use borrow.Author.Tests.{eq-eqb, ne_eqb, eqb-true, not-false}
use Rattle.expanded.specs.Object.{Object, object, Ends, Stands}
use Rattle.expanded.specs.Condition.{formed_plain, is_template, formed}
use Rattle.expanded.specs.Expanded.{is_am, in_place}
use Rattle.expanded.proofs.Objects.{end_whole, Each, each_next}
use Rattle.expanded.proofs.Rows.{Going, going_next}

-- nothing is said of a place where the answer is no
pub not_there : {A : Type 0} → false ≡ true → A
not_there e = absurd (false≢true e)

-- room for n bytes, and n as length byte
pub has-whole : (s : List ℕ) (at n : ℕ) {z : ℕ} → at < length s → n < 128 → 2 + n ≤ length s - at → z ≡ get_or s (at + 1) 0
    → eqb z n ≡ true → Ends s at (at + 2 + n)
has-whole s at n {z} h k m e t = end_whole s at h n (omega arith) (sym (eqb-true z n t) ∙ e) (omega arith) (omega arith)

-- a plain condition is no template, no AM_DO, and well formed at any depth
other_tag : (k tag : ℕ) (v : List ℕ) → formed_plain k v ≡ false → formed_plain tag v ≡ true → tag ≡ k → ⊥
other_tag k tag v f h e = false≢true (sym f ∙ ap (λ (t : ℕ). formed_plain t v) (sym e) ∙ h)

module _ (tag : ℕ) (v : List ℕ) (h : formed 0 (object tag v) ≡ true) where
  no-template : is_template tag ≡ false
  unfolding is_template formed formed_plain
  no-template = rw (ne_eqb tag 0xA0 (other_tag 0xA0 tag v refl h), ne_eqb tag 0xAF (other_tag 0xAF tag v refl h))

  no_am : is_am (object tag v) ≡ false
  unfolding is_am formed formed_plain
  no_am = rw (ne_eqb tag 0x80 (other_tag 0x80 tag v refl h))

formed_any : (left tag : ℕ) (v : List ℕ) → formed 0 (object tag v) ≡ true → formed left (object tag v) ≡ true
unfolding formed
formed_any zero tag v h = h
formed_any (suc left) tag v h = rw (no-template tag v h) h

-- a 9E with its byte; a 90 or 97; an AM_DO
byte_formed : (tag : ℕ) (v : List ℕ) → tag ≡ 0x9E → length v ≡ 1 → formed 0 (object tag v) ≡ true
unfolding formed formed_plain
byte_formed tag v e h = ap (λ (t : ℕ). formed_plain t v) e ∙ eq-eqb (length v) 1 h

am_formed : (tag : ℕ) (v : List ℕ) → tag ≡ 0x80 → length v ≡ 1 → ltb (get_or v 0 0) 128 ≡ true → is_am (object tag v) ≡ true
unfolding is_am
am_formed tag v e h b = rw (eq-eqb tag 0x80 e, eq-eqb (length v) 1 h) b

stands : (f : Object → Bool) (s : List ℕ) (at n to : ℕ) → at + 2 + n ≡ to → Ends s at (at + 2 + n)
    → f (object (get_or s at 0) (take n (drop (at + 2) s))) ≡ true → Stands f s at to
stands f s at n to e p h =
    let k : at + 2 + n - (at + 2) ≡ n = omega arith in
    rw (← e)
    (record {
      long = omega arith;
      ends = p;
      holds = ap (λ (m : ℕ). f (object (get_or s at 0) (take m (drop (at + 2) s)))) k ∙ h;
    })

module _ (s : List ℕ) (at : ℕ) where
  one-long : Ends s at (at + 2 + 1) → length (take 1 (drop (at + 2) s)) ≡ 1
  one-long p = length-take-le 1 (drop (at + 2) s) (omega (arith, p.within, length-drop (at + 2) s))

  pub stands_byte : {r : Bool} → get_or s at 0 ≡ 0x9E → (r ≡ true → Ends s at (at + 2 + 1)) → r ≡ true → Stands (formed 0) s at (at + 3)
  stands_byte e p t =
      stands (formed 0) s at 1 (at + 3) (omega arith) (p t) (byte_formed (get_or s at 0) (take 1 (drop (at + 2) s)) e (one-long (p t)))

  pub stands_constant : {r c : Bool} → c ≡ formed_plain (get_or s at 0) [] → not c ≡ false → (r ≡ true → Ends s at (at + 2 + 0))
      → r ≡ true → Stands (formed 0) s at (at + 2)
  unfolding formed
  stands_constant {r} {c} e q p t = stands (formed 0) s at 0 (at + 2) (omega arith) (p t) (sym e ∙ not-false c q)

  pub stands_am : {r : Bool} → get_or s at 0 ≡ 0x80 → (r ≡ true → Ends s at (at + 2 + 1)) → not r ≡ false
      → ltb (get_or s (at + 2) 0) 128 ≡ true → Stands is_am s at (at + 3)
  stands_am {r} e p t b =
      let q : Ends s at (at + 2 + 1) = p (not-false r t) in
      let f : at + 2 + 0 ≡ at + 2 = omega arith in
      let g : get_or (take 1 (drop (at + 2) s)) 0 0 ≡ get_or s (at + 2) 0 =
      get_or-take 1 (drop (at + 2) s) 0 0 (omega arith) ∙ get_or-drop (at + 2) s 0 0 ∙ ap (λ (k : ℕ). get_or s k 0) f in
      let h : is_am (object (get_or s at 0) (take 1 (drop (at + 2) s))) ≡ true =
      am_formed (get_or s at 0) (take 1 (drop (at + 2) s)) e (one-long q) (ap (λ (k : ℕ). ltb k 128) g ∙ b) in
      stands is_am s at 1 (at + 3) (omega arith) q h

  pub am_within : {r : Bool} → (r ≡ true → Ends s at (at + 2 + 1)) → not r ≡ false → at + 2 < length s
  am_within {r} p t = omega (arith, (p (not-false r t)).within)

-- behind such an object the loops go on
pub each_plain : (left : ℕ) {s : List ℕ} {at to : ℕ} {r : Bool} → Each (formed left) s at → (r ≡ true → Stands (formed 0) s at to)
    → r ≡ true → Each (formed left) s to
each_plain left inv p t = each_next inv (p t).ends (p t).long (sym (formed_any left _ _ (p t).holds)) refl

module _ {due : Bool} {s : List ℕ} {at : ℕ} (inv : Going due s at) {to : ℕ} {r : Bool} where
  pub going_plain : (r ≡ true → Stands (formed 0) s at to) → r ≡ true → Going false s to
  unfolding in_place
  going_plain p t =
      going_next inv (p t).ends {r = true} (p t).long (rw (no_am _ _ (p t).holds) (sym (formed_any 4 _ _ (p t).holds))) refl
      (sym (no_am _ _ (p t).holds))

  pub going_am : (r ≡ true → (due ≡ false) × Stands is_am s at to) → r ≡ true → Going true s to
  unfolding in_place
  going_am p t =
      let q : Stands is_am s at to = (p t).1 in
      going_next inv q.ends {r = true} q.long (rw (q.holds, (p t).0)) refl (sym q.holds)
