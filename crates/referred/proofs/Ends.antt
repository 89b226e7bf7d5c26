-- Where the rule in a padded record ends: a walk from object to object reaches no other place, since FF, with which
-- padding begins, is the tag of no object of a rule.
use mathlib.Core.Path.{◌≡◌, refl, sym, ◌∙◌, ap}
use mathlib.Core.Bool.{Bool, true, false, false≢true}
use mathlib.Core.List.{List, [], ◌∷◌}
use mathlib.Core.Logic.{⊎_elim}
use Prim.Native.Nat.{ℕ, zero, suc, ◌+◌, ◌-◌, ◌<◌, ◌≤◌}
use native.Mathlib.Nat.{eq-or-lt_of_le}
use native.Mathlib.Omega.{arith}
use lib.ListN.{length, get_or, take, drop, length-drop}
use lib.Seq.{length-take-le, get_or-take, get_or-drop}
use lib.Dec.{eqb, leb}
use borrow.Author.Tests.{eqb-true, eq-eqb, ne_eqb, leb-true, leb-false}
use Rattle.std.specs.Bool.{MatchBool}
use Rattle.std.specs.List.{AllWithin, HoldsAt}
use Rattle.laws.proofs.Walks.{all_each, each_all, all_fails}
use Rattle.laws.proofs.Says.{and-says}
use Rattle.expanded.specs.Object.{Object, object, cut, objects_of, Ends}
use Rattle.expanded.specs.Condition.{formed_plain, is_template, formed}
use Rattle.expanded.specs.Expanded.{is_am, in_place, goes_on, expanded_formed}
use Rattle.expanded.proofs.Objects.{end_short, end-long, end-past, end_whole}
use Rattle.expanded.proofs.Rows.{place-cut}
use Rattle.referred.specs.Padding.{is_ff, is_padding, ends_at, OnlyEnd}

-- an object of two bytes or more ends at one place only
pub ends_same : (s : List ℕ) (at to too : ℕ) → Ends s at to → Ends s at too → 2 ≤ too - at → to ≡ too
ends_same s at to too e f b = go (leb 2 (to - at)) refl
  where
    value : ℕ → List ℕ
    value k = take (k - (at + 2)) (drop (at + 2) s)

    long : (k : ℕ) → Ends s at k → 2 ≤ k - at → length (value k) ≡ k - (at + 2)
    long k g h = length-take-le (k - (at + 2)) (drop (at + 2) s) (omega (arith, length-drop (at + 2) s, g.within))

    go : (t : Bool) → leb 2 (to - at) ≡ t → to ≡ too
    go true q =
        let a : 2 ≤ to - at = leb-true 2 (to - at) q in
        let p : object (get_or s at 0) (value to) ∷ objects_of (drop to s) ≡ object (get_or s at 0) (value too) ∷ objects_of (drop too s) = sym (e.whole a) ∙ f.whole b in
        let r : value to ≡ value too = cc in
        omega (arith, long to e a, long too f b, ap length r)
    go false q =
        let p : cut ∷ [] ≡ object (get_or s at 0) (value too) ∷ objects_of (drop too s) = sym (e.broken (leb-false 2 (to - at) q)) ∙ f.whole b in
        let z : ◌≡◌ {A = ℕ} 0 1 = cc in
        absurd (omega arith)

-- the first object of bytes that go on a rule: it is whole, it hasn't the tag FF, and what comes after goes on
pub record First (s : List ℕ) (at : ℕ) : Type 0 where
  pub small : get_or s (at + 1) 0 ≤ 127
  pub fits : at + 2 + get_or s (at + 1) 0 ≤ length s
  pub other : get_or s at 0 ≡ 0xFF → ⊥
  pub due : Bool
  pub goes : goes_on due (objects_of (drop (at + 2 + get_or s (at + 1) 0) s)) ≡ true

tag_ff : (due : Bool) (tag : ℕ) (v : List ℕ) → tag ≡ 0xFF → in_place due (object tag v) ≡ false
unfolding in_place is_am formed is_template formed_plain
tag_ff due tag v e = rw e

cut_goes : (due : Bool) (os : List Object) → os ≡ cut ∷ [] → goes_on due os ≡ true → ⊥
unfolding goes_on
cut_goes due os e g = false≢true (sym (ap (goes_on due) e ∙ rw (place-cut due)) ∙ g)

goes_on_lem : (due : Bool) (o : Object) (os : List Object) → goes_on due (o ∷ os) ≡ true → (in_place due o ≡ true) × (goes_on (is_am o) os ≡ true)
unfolding goes_on
goes_on_lem due o os g = (and-says (in_place due o) (goes_on (is_am o) os)).0 g

goes_first : (due : Bool) (s : List ℕ) (at : ℕ) → at < length s → goes_on due (objects_of (drop at s)) ≡ true → First s at
goes_first due s at h g = room (leb 2 (length s - at)) refl
  where
    n : ℕ
    n = get_or s (at + 1) 0

    none : Ends s at at → ⊥
    none e = cut_goes due (objects_of (drop at s)) (e.broken (omega arith)) g

    whole : 2 ≤ length s - at → n ≤ 127 → n ≤ length s - (at + 2) → First s at
    whole a b c =
        let e = end_whole s at h n a refl b c in
        let f : 2 ≤ at + 2 + n - at = omega arith in
        let v : List ℕ = take (at + 2 + n - (at + 2)) (drop (at + 2) s) in
        let two = goes_on_lem due (object (get_or s at 0) v) (objects_of (drop (at + 2 + n) s)) (sym (ap (goes_on due) (e.whole f)) ∙ g) in
        record {
          small = b;
          fits = omega arith;
          other = λ t. false≢true (sym (tag_ff due (get_or s at 0) v t) ∙ two.0);
          due = is_am (object (get_or s at 0) v);
          goes = two.1;
        }

    fitting : 2 ≤ length s - at → n ≤ 127 → (t : Bool) → leb n (length s - (at + 2)) ≡ t → First s at
    fitting a b true q = whole a b (leb-true n (length s - (at + 2)) q)
    fitting a b false q = absurd (none (end-past s at h n a refl (leb-false n (length s - (at + 2)) q)))

    small : 2 ≤ length s - at → (t : Bool) → leb n 127 ≡ t → First s at
    small a true q = fitting a (leb-true n 127 q) (leb n (length s - (at + 2))) refl
    small a false q = absurd (none (end-long s at h n a refl (leb-false n 127 q)))

    room : (t : Bool) → leb 2 (length s - at) ≡ t → First s at
    room true q = small (leb-true 2 (length s - at) q) (leb n 127) refl
    room false q = absurd (none (end_short s at h (leb-false 2 (length s - at) q)))

-- padding begins with FF
pads_at : (s : List ℕ) (k : ℕ) → k < length s → is_padding (drop k s) ≡ true → get_or s k 0 ≡ 0xFF
unfolding is_padding is_ff
pads_at s k h e =
    let z : k ≡ k + 0 = omega arith in
    ap (λ (i : ℕ). get_or s i 0) z
    ∙ sym (get_or-drop k s 0 0)
    ∙ eqb-true (get_or (drop k s) 0 0) 0xFF (all_each (λ i. eqb (get_or (drop k s) i 0) 0xFF) (length (drop k s)) 0 (omega (arith, length-drop k s)) e)

-- r is what `all` answered of the bytes
pub pads_told : (s : List ℕ) (r : Bool)
    → MatchBool r (AllWithin (λ x. x ≡ 0xFF) s 0 (length s)) ((k : ℕ) × (k < length s) × HoldsAt (λ x. x ≡ 0xFF → ⊥) s k) → r ≡ is_padding s
unfolding is_padding is_ff
pads_told s true h = sym (each_all (λ i. eqb (get_or s i 0) 0xFF) (length s) (λ k l. eq-eqb (get_or s k 0) 0xFF (h k 0 (omega arith) l)))
pads_told s false h = sym (all_fails (λ i. eqb (get_or s i 0) 0xFF) (length s) h.0 h.1 (ne_eqb (get_or s h.0 0) 0xFF (h.2 0)))

-- a rule that ends at k, seen from a place on the walk: what is between goes on a rule
pub record Left (s : List ℕ) (at k : ℕ) : Type 0 where
  pub from : at ≤ k
  pub to : k ≤ length s
  pub due : Bool
  pub goes : goes_on due (objects_of (drop at (take k s))) ≡ true
  pub pads : is_padding (drop k s) ≡ true

pub left-start : (s : List ℕ) (k : ℕ) → k ≤ length s → ends_at s k ≡ true → Left s 0 k
unfolding ends_at expanded_formed
left-start s k h e =
    let two = (and-says (expanded_formed (take k s)) (is_padding (drop k s))).0 e in
    record {
      from = omega arith;
      to = h;
      due = false;
      goes = ((and-says (eqb (get_or (take k s) 0 0) 0x80) (goes_on false (objects_of (take k s)))).0 two.0).1;
      pads = two.1;
    }

-- one object further
pub record Next (s : List ℕ) (at k : ℕ) : Type 0 where
  pub to : ℕ
  pub ends : Ends s at to
  pub more : 2 ≤ to - at
  pub left : Left s to k
  pub other : get_or s at 0 ≡ 0xFF → ⊥

pub left-next : (s : List ℕ) (at k : ℕ) → Left s at k → at < k → Next s at k
left-next s at k l h =
    record {
      to = at + 2 + n;
      ends = end_whole s at (omega (arith, l.to)) n (omega (arith, l.to, low)) refl (rw same at f.small) (omega (arith, l.to, low));
      more = omega arith;
      left =
          record {
            from = low;
            to = l.to;
            due = f.due;
            goes = rw same at f.goes;
            pads = l.pads;
          };
      other = λ e. f.other (get_or-take k s at 0 h ∙ e);
    }
  where
    cutoff : length (take k s) ≡ k
    cutoff = length-take-le k s l.to

    f : First (take k s) at
    f = goes_first l.due (take k s) at (rw cutoff h) l.goes

    n : ℕ
    n = get_or s (at + 1) 0

    same : get_or (take k s) (at + 1) 0 ≡ n
    same = get_or-take k s (at + 1) 0 (omega (arith, f.fits, cutoff))

    low : at + 2 + n ≤ k
    low = omega (arith, f.fits, cutoff, same)

-- a rule ends here, or further on
pub here-or : {A : Type 0} (s : List ℕ) (at k : ℕ) → Left s at k → (at ≡ k → A) → (at < k → A) → A
here-or s at k l f g = ⊎_elim f g (eq-or-lt_of_le l.from)

-- two rules that end in the same padded record end at the same place
same_end : (m : ℕ) (s : List ℕ) (at j k : ℕ) → length s ≤ m + at → Left s at j → Left s at k → j ≡ k
same_end zero s at j k h a b = omega (arith, a.from, a.to, b.from, b.to)
same_end (suc m) s at j k h a b =
    here-or s at j a
    (λ e. here-or s at k b (λ f. sym e ∙ f) (λ q. absurd (stuck j e a (left-next s at k b q) (omega (arith, b.to)))))
    (λ p. here-or s at k b (λ f. absurd (stuck k f b (left-next s at j a p) (omega (arith, a.to)))) (λ q. on (λ to low x y. same_end m s to j k low x y) (left-next s at j a p) (left-next s at k b q)))
  where
    stuck : {i : ℕ} (k' : ℕ) → at ≡ k' → Left s at k' → Next s at i → at < length s → ⊥
    stuck k' e l x low = x.other (pads_at s at low (rw (← e) at l.pads))

    on : ((to : ℕ) → length s ≤ m + to → Left s to j → Left s to k → j ≡ k) → Next s at j → Next s at k → j ≡ k
    on further x y =
        let e : x.to ≡ y.to = ends_same s at x.to y.to x.ends y.ends y.more in
        further x.to (omega (arith, x.more)) x.left (rw (← e) at y.left)

pub end_unique : (s : List ℕ) (j k : ℕ) → j ≤ length s → k ≤ length s → ends_at s j ≡ true → ends_at s k ≡ true → j ≡ k
end_unique s j k a b d e = same_end (length s) s 0 j k (omega arith) (left-start s j a d) (left-start s k b e)

-- the walk: each rule that the record may have ends here or further on
pub record Walked (s : List ℕ) (at : ℕ) : Type 0 where
  pub within : at ≤ length s
  pub all : (k : ℕ) → k ≤ length s → ends_at s k ≡ true → Left s at k

pub walk_start : (s : List ℕ) → Walked s 0
walk_start s = record { within = omega arith; all = left-start s }

module _ {s : List ℕ} {at : ℕ} (w : Walked s at) where
  -- where no object of a rule comes next, no rule ends further on
  stays : ((k : ℕ) → Next s at k → ⊥) → OnlyEnd s at
  stays f =
      record {
        within = w.within;
        only = λ k h e. here-or s at k (w.all k h e) (λ q. sym q) (λ q. absurd (f k (left-next s at k (w.all k h e) q)));
      }

  pub walk_end : length s ≤ at → OnlyEnd s at
  walk_end h =
      record { within = w.within; only = λ k a e. omega (arith, (w.all k a e).from) }

  pub walk_ff : get_or s at 0 ≡ 0xFF → OnlyEnd s at
  walk_ff e = stays (λ k x. x.other e)

  module _ {to : ℕ} (e : Ends s at to) where
    pub walk_cut : to - at < 2 → OnlyEnd s at
    walk_cut h = stays (λ k x. not_same x.to x.ends x.more)
      where
        not_same : (too : ℕ) → Ends s at too → 2 ≤ too - at → ⊥
        not_same too f b = let q : to ≡ too = ends_same s at to too e f b in omega arith

    pub walk_next : at < length s → (get_or s at 0 ≡ 0xFF → ⊥) → Walked s to
    walk_next h o = record { within = e.within; all = λ k a f. go k (w.all k a f) }
      where
        on : (k : ℕ) → Next s at k → Left s to k
        on k x = let q : to ≡ x.to = ends_same s at to x.to e x.ends x.more in rw q x.left

        go : (k : ℕ) → Left s at k → Left s to k
        go k l = here-or s at k l (λ q. absurd (o (pads_at s at h (rw (← q) at l.pads)))) (λ q. on k (left-next s at k l q))

pub ruleset walks = (walk_start, walk_end, walk_ff, walk_cut, walk_next)
