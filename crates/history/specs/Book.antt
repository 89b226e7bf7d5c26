-- What READ gives (02 Ticket 4): over any history, what the last UPDATE of each byte wrote, FF where none did, since the file's creation. A
-- book kept beside the card says so. It is written from commands answered 9000, as the ledger is (specs/Ledger); of the image it is told
-- only which EF slot is current, before and after a command; it never reads a record or the pool. Each statement is proved in
-- proofs/Books or proofs/BookReads under the same name in small letters.
use Rattle.std.specs.Prelude.{◌≡◌, true, cond, List, [], ◌∷◌, ◌⊎◌, ℕ, ◌+◌, ◌<◌, ◌≤◌, eqb, length, get_or, replicate}
use Rattle.std.specs.Prelude.{Ok}
use Rattle.laws.specs.Lists.{part, splice}
use Rattle.rules.specs.Descriptor.{ef}
use Rattle.image.specs.Layout.{count_of, current_ef_of}
use Rattle.pool.specs.Bodies.{body_bytes}
use Rattle.sound.specs.Table.{view_at}
use Rattle.create_data.specs.declared.Data.{Data}
use Rattle.std.specs.Prelude.{Option, Some, None}
use Rattle.create_data.specs.declared.Data.TheVariants.{Df, Ef}
use Rattle.create_data.specs.Data.{data_of}
use Rattle.maker.specs.declared.Edition.{Edition}
use Rattle.maker.specs.Making.{made_of, left_by}
use Rattle.verdict.specs.declared.State.{State}
use Rattle.verdict.specs.Applied.{sent_data}
use Rattle.apdu.specs.Apdu.{instruction, asked}
use Rattle.card.specs.Touching.{place_of}
use Rattle.card.specs.Command.{answer_word, answer_told, reply_of, pool_of, response_of}
use Rattle.card.specs.Obeyed.{is_one_of}
use Rattle.card.specs.Demands.{Call, image_after}
use Rattle.history.specs.Story.{word_for}

-- the contents of the EF in each slot
abbrev pub Book : Type 0
Book = ℕ → List ℕ

-- a book with other contents for slot s
unfoldable pub written : Book → ℕ → List ℕ → Book
written b s l t = cond (eqb t s) l (b t)

-- what a command tells the book: a new EF of so many bytes, bytes written from a place on, or neither
pub data News : Type 0 where
  begins : ℕ → News
  writes : ℕ → List ℕ → News
  quiet : News

-- CREATE FILE: what its data announce; UPDATE BINARY and UPDATE RECORD: what they send, from where they begin in the body
abbrev pub new_contents : Option Data → News
new_contents None = quiet
new_contents (Some (Df x)) = quiet
new_contents (Some (Ef x)) = begins x.size

unfoldable pub news_of : ℕ → List ℕ → News
news_of v c =
    cond (eqb (instruction c) 0xE0) (new_contents (data_of v (sent_data c)))
    (cond (is_one_of (instruction c) (0xD6 ∷ 0xDC ∷ [])) (writes (place_of c) (sent_data c))
    quiet)

-- .. if the word is 9000
unfoldable pub news_by : ℕ → ℕ → List ℕ → News
news_by v word c = cond (eqb word 0x9000) (news_of v c) quiet

-- the book after a command, `before` and `after` being the current EF slots before and after it: a new file is all FF, in the slot that is
-- current afterwards; what is written stands in the current file
unfoldable pub noted : Book → News → ℕ → ℕ → Book
noted b (begins size) before after = written b after (replicate size 0xFF)
noted b (writes at l) before after = written b before (splice (b before) at l)
noted b quiet before after = b

-- the version that the maker was told, the card, its pool, and the book beside them
pub record Tale : Type 0 where
  pub version : ℕ
  pub image : List ℕ
  pub pool : List ℕ
  pub book : Book

-- a command, the state, and how long a response is lent; the pool is the one that the call before left
pub record Turn : Type 0 where
  pub command : List ℕ
  pub state : State
  pub lent : ℕ

abbrev pub call_on : Tale → Turn → Call
call_on t x = record { pool = t.pool; command = x.command; state = x.state; lent = x.lent }

abbrev pub word_on : Tale → Turn → ℕ
word_on t x = word_for t.image (call_on t x)

-- one call: what it leaves of image and pool, and what the book hears of it
unfoldable pub turned : Tale → Turn → Tale
turned t x = record {
  version = t.version;
  image = image_after t.image (call_on t x);
  pool = pool_of t.image t.pool x.command x.state x.lent;
  book = noted t.book (news_by t.version (word_on t x) x.command) (current_ef_of t.image)
      (current_ef_of (image_after t.image (call_on t x)));
}

-- any list of calls
abbrev pub turned_by : Tale → List Turn → Tale
turned_by t [] = t
turned_by t (x ∷ rest) = turned_by (turned t x) rest

-- it begins with what the maker left, any pool, and an empty book
abbrev pub opening : ℕ → List ℕ → List ℕ → Tale
opening v img pool = record { version = v; image = img; pool = pool; book = λ s. [] }

-- a history of a card that has bodies: what the maker left of some buffer, any pool of its total, and any list of calls
pub record Chronicle (t : Tale) : Type 0 where
  pub buffer : List ℕ
  pub edition : Edition
  pub total : ℕ
  pub form : ℕ
  pub rule : List ℕ
  pub bodies : List ℕ
  pub turns : List Turn
  pub third : edition.version ≡ 3
  pub made : made_of buffer edition total form rule ≡ Ok tt
  pub whole : length bodies ≡ total
  pub tale : turned_by (opening edition.version (left_by (Ok tt) buffer edition total form rule) bodies) turns ≡ t

-- THE BOOK HOLDS: the body of every EF of the card is what the book has for its slot, byte for byte
abbrev pub BookHolds : Type 0
BookHolds = (t : Tale) → Chronicle t → (s : ℕ) → s < count_of t.image → (view_at t.image s).kind ≡ ef
    → body_bytes t.image t.pool s ≡ t.book s

-- so what a READ answered 9000 tells is that part of the current EF's contents by the book, as many bytes as it asks for
abbrev pub ReadsBook : Type 0
ReadsBook = (t : Tale) → Chronicle t → (c : List ℕ) (st : State) (response : List ℕ)
    → is_one_of (instruction c) (0xB0 ∷ 0xB2 ∷ []) ≡ true → answer_word (reply_of t.image t.pool c st (length response)) ≡ 0x9000
    → (response_of t.image t.pool c st response
    ≡ splice response 0 (part (t.book (current_ef_of t.image)) (place_of c) (asked c)))
    × (answer_told (reply_of t.image t.pool c st (length response)) ≡ asked c)

-- an UPDATE answered 9000
pub record Updates (t : Tale) (x : Turn) : Type 0 where
  pub update : is_one_of (instruction x.command) (0xD6 ∷ 0xDC ∷ []) ≡ true
  pub answered : word_on t x ≡ 0x9000

-- and each byte of the book is what the last UPDATE of it wrote: an UPDATE changes the bytes that it sends, in the current EF, and no other
abbrev pub LastCounts : Type 0
LastCounts = (t : Tale) → Chronicle t → (x : Turn) → Updates t x
    → let c : List ℕ = x.command in
    let s : ℕ = current_ef_of t.image in
    ((k : ℕ) → k < length (sent_data c) → get_or ((turned t x).book s) (place_of c + k) 0 ≡ get_or (sent_data c) k 0)
    × ((k : ℕ) → (k < place_of c) ⊎ (place_of c + length (sent_data c) ≤ k) → get_or ((turned t x).book s) k 0 ≡ get_or (t.book s) k 0)
    × ((d : ℕ) → (d ≡ s → ⊥) → (turned t x).book d ≡ t.book d)
