-- What READ tells by the book, and which bytes of the book an UPDATE changes: from what the verdict that stands tells of the image.
use mathlib.Core.Path.{◌≡◌, refl, sym, ap, ◌∙◌}
use mathlib.Core.Bool.{true, false, false≢true}
use mathlib.Core.List.{List, [], ◌∷◌}
use mathlib.Core.Logic.{inl, ⊎_elim}
use Prim.Native.Nat.{ℕ, ◌+◌, ◌≤◌}
use native.Mathlib.Omega.{arith}
use lib.Dec.{eqb}
use lib.ListN.{length}
use borrow.Author.Tests.{eq-eqb, ne_eqb, eqb-true}
use Rattle.std.specs.Prelude.{Ok, Err}
use Rattle.laws.specs.Lists.{part, splice}
use Rattle.laws.proofs.Says.{or-says}
use Rattle.laws.proofs.Splices.{length_part, get_or-splice_in, get_or-splice_below, get_or-splice_above}
use Rattle.image.specs.Layout.{current_ef_of, none}
use Rattle.pool.specs.Bodies.{body_at, body_bytes}
use Rattle.sound.specs.Sound.{Sound}
use Rattle.verdict.specs.declared.State.{State}
use Rattle.verdict.specs.declared.Effect.TheVariants.{Select, Create, Delete, SetLife, Read, Update}
use Rattle.verdict.specs.Words.{done}
use Rattle.verdict.specs.Applied.{Verdict, sent_data, word_of}
use Rattle.apdu.specs.Apdu.{instruction, is_binary, is_record, is_read, is_body, asked, create_file}
use Rattle.effect.specs.Told.{told}
use Rattle.card.specs.Touching.{place_of}
use Rattle.card.specs.Command.{answer_word, answer_told, PoolFits, due_of, reply_of}
use Rattle.card.specs.Obeyed.{is_one_of}
use Rattle.card.proofs.Tells.{Touches, Tells, lies, touched}
use Rattle.card.proofs.Speaks.{Spoken}
use Rattle.card.proofs.Ordered.{Ordered}
use Rattle.card.proofs.Due.{due_by, due_tells, due_speaks, due_ordered}
use Rattle.card.proofs.Answered.{word_is, told_is}
use Rattle.card.proofs.Contents.{reads-body}
use Rattle.history.specs.Book.{written, news_of, news_by, noted, Tale, Turn, word_on, turned, Updates, ReadsBook, LastCounts}
use Rattle.history.proofs.Announced.{Announces, judge_announces}
use Rattle.history.proofs.News.{update_other}
use Rattle.history.proofs.Books.{Right, chronicle_right}

-- one of two instructions
one_of_two_lem : (P : ℕ → Type 0) (a b i : ℕ) → P a → P b → is_one_of i (a ∷ b ∷ []) ≡ true → P i
one_of_two_lem P a b i x y h =
    ⊎_elim (λ e. rw (eqb-true i a e) x)
    (λ f. ⊎_elim (λ e. rw (eqb-true i b e) y) (λ e. absurd (false≢true e)) ((or-says (eqb i b) false).0 f))
    ((or-says (eqb i a) (is_one_of i (b ∷ []))).0 h)

read_is : (i : ℕ) → is_one_of i (0xB0 ∷ 0xB2 ∷ []) ≡ true → (is_body i ≡ true) × (is_read i ≡ true)
unfolding is_body is_binary is_record is_read
read_is i h = one_of_two_lem (λ j. (is_body j ≡ true) × (is_read j ≡ true)) 0xB0 0xB2 i (refl, refl) (refl, refl) h

update_is : (i : ℕ) → is_one_of i (0xD6 ∷ 0xDC ∷ []) ≡ true → (is_body i ≡ true) × (is_read i ≡ false)
unfolding is_body is_binary is_record is_read
update_is i h = one_of_two_lem (λ j. (is_body j ≡ true) × (is_read j ≡ false)) 0xD6 0xDC i (refl, refl) (refl, refl) h

-- a command on a body that succeeds reads or updates
abbrev Body : Verdict → Type 0
Body (Err w) = ⊥
Body (Ok (Select d e w)) = ⊥
Body (Ok (Create x)) = ⊥
Body (Ok (Delete s)) = ⊥
Body (Ok (SetLife s life)) = ⊥
Body (Ok (Read at n)) = Unit {0}
Body (Ok (Update at)) = Unit {0}

module _ (img pool c : List ℕ) (st : State) (lent : ℕ) (sound : Sound img) (b : is_body (instruction c) ≡ true)
    (w : answer_word (reply_of img pool c st lent) ≡ done) where
  no_body : (i : ℕ) → is_body i ≡ false → instruction c ≡ i → ⊥
  no_body i h e = false≢true (sym h ∙ sym (ap is_body e) ∙ b)

  is_body_lem : (v : Verdict) → Announces img c v → Ordered img c v → Spoken v → word_of v ≡ done → Body v
  is_body_lem (Err x) a o s e = s (inl e)
  is_body_lem (Ok (Select d f x)) a o s e = no_body 0xA4 (unfold is_body is_binary is_record in refl) o
  is_body_lem (Ok (Create x)) a o s e = no_body 0xE0 (unfold is_body is_binary is_record in refl) o.0
  is_body_lem (Ok (Delete x)) a o s e = no_body 0xE4 (unfold is_body is_binary is_record in refl) o.0
  is_body_lem (Ok (SetLife x life)) a o s e = false≢true (sym a.1 ∙ b)
  is_body_lem (Ok (Read at n)) a o s e = tt
  is_body_lem (Ok (Update at)) a o s e = tt

  due : Verdict
  due = due_of img pool c st lent

  due_body : Body due
  unfolding due
  due_body =
      is_body_lem (due_of img pool c st lent) (due_by img pool c st lent (Announces img c) (judge_announces img pool c st) tt)
      (due_ordered img pool c st lent) (due_speaks img pool c st lent) (sym (word_is img pool c st lent sound) ∙ w)

  -- a READ tells as much as it asks for
  tells : PoolFits img pool → is_read (instruction c) ≡ true → (v : Verdict) → Body v → Tells img c v → Ordered img c v
      → (current_ef_of img ≡ none → ⊥) × (length (told img pool c v) ≡ asked c)
  tells k q (Err x) n t o = absurd n
  tells k q (Ok (Select d f x)) n t o = absurd n
  tells k q (Ok (Create x)) n t o = absurd n
  tells k q (Ok (Delete x)) n t o = absurd n
  tells k q (Ok (SetLife x life)) n t o = absurd n
  tells k q (Ok (Read at m)) n t o = (t.0.some, length_part pool at m (touched img pool sound k c at m t.0) ∙ t.1)
  tells k q (Ok (Update at)) n t o = absurd (false≢true (sym o.1 ∙ q))

  reading : PoolFits img pool → is_read (instruction c) ≡ true
      → (current_ef_of img ≡ none → ⊥) × (answer_told (reply_of img pool c st lent) ≡ asked c)
  unfolding due
  reading k q =
      let r = tells k q (due_of img pool c st lent) due_body (due_tells img pool c st lent sound) (due_ordered img pool c st lent) in
      (r.0, told_is img pool c st lent sound ∙ r.1)

  -- an UPDATE writes within the body
  sends : is_read (instruction c) ≡ false → (v : Verdict) → Body v → Tells img c v → Ordered img c v
      → (at : ℕ) × Touches img c at (length (sent_data c))
  sends q (Err x) n t o = absurd n
  sends q (Ok (Select d f x)) n t o = absurd n
  sends q (Ok (Create x)) n t o = absurd n
  sends q (Ok (Delete x)) n t o = absurd n
  sends q (Ok (SetLife x life)) n t o = absurd n
  sends q (Ok (Read at m)) n t o = absurd (false≢true (sym q ∙ o.1))
  sends q (Ok (Update at)) n t o = (at, t.1)

  updating : is_read (instruction c) ≡ false → (at : ℕ) × Touches img c at (length (sent_data c))
  unfolding due
  updating q = sends q (due_of img pool c st lent) due_body (due_tells img pool c st lent sound) (due_ordered img pool c st lent)

pub reads-book : ReadsBook
reads-book t h c st response i w =
    let r = chronicle_right t h in
    let p = read_is (instruction c) i in
    let k = reading t.image t.pool c st (length response) r.sound p.0 w r.pool-fits p.1 in (
      reads-body t.image t.pool c st response r.sound r.pool-fits i w
          ∙ ap (λ (b : List ℕ). splice response 0 (part b (place_of c) (asked c)))
          (r.holds (current_ef_of t.image) (r.sound.current.ef-low k.0) (r.sound.current.ef-file k.0)),
      k.1,
    )

-- what an UPDATE writes lies within the contents
within : (t : Tale) → Right t → (x : Turn) → Updates t x
    → place_of x.command + length (sent_data x.command) ≤ length (t.book (current_ef_of t.image))
unfolding body_bytes
within t r x u =
    let p = update_is (instruction x.command) u.update in
    let m = (updating t.image t.pool x.command x.state x.lent r.sound p.0 u.answered p.1).1 in
    let low = r.sound.current.ef-low m.some in
    let long : length (body_bytes t.image t.pool (current_ef_of t.image)) ≡ body_at t.image (current_ef_of t.image) =
    length_part t.pool _ _ ((lies t.image t.pool r.sound r.pool-fits).inside (current_ef_of t.image) low m.body)
    in
    omega (arith, m.within, long, ap length (r.holds (current_ef_of t.image) low (r.sound.current.ef-file m.some)))

-- the book after it
updated_book : (t : Tale) (x : Turn) → Updates t x → (turned t x).book
    ≡ written t.book (current_ef_of t.image)
    (splice (t.book (current_ef_of t.image)) (place_of x.command) (sent_data x.command))
unfolding turned news_by news_of noted
updated_book t x u =
    let z = ne_eqb (instruction x.command) 0xE0 (λ e. update_other x.command create_file refl u.update e) in
    rw (eq-eqb (word_on t x) 0x9000 u.answered, z, u.update) refl

pub last-counts : LastCounts
unfolding written
last-counts t h x u =
    let s = current_ef_of t.image in
    let b = t.book (current_ef_of t.image) in
    let c = x.command in
    let i = within t (chronicle_right t h) x u in
    rw (updated_book t x u, eq-eqb s s refl) (
      (λ k l. get_or-splice_in b (place_of c) (sent_data c) i k l),
      (λ k l. ⊎_elim (λ q. get_or-splice_below b (place_of c) (sent_data c) i k q)
          (λ q. get_or-splice_above b (place_of c) (sent_data c) i k q) l),
      (λ d z. rw (ne_eqb d s z) refl),
    )
