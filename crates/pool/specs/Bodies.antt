-- The body of a file (02 Ticket 4): `size` bytes of the pool from the record's start on. Only an EF has one, and only where the version
-- has bodies; any other slot has a body of no bytes.
use Rattle.std.specs.Prelude.{List, cond, ◌&&◌, ℕ, eqb}
use Rattle.laws.specs.Lists.{part}
use Rattle.rules.specs.Descriptor.{ef}
use Rattle.image.specs.Layout.{has_bodies, version_of, rec_at, kind_of, size_of, start_of}

-- how many bytes the body of a record of a version has
unfoldable pub body_of : ℕ → List ℕ → ℕ
body_of v r = cond (has_bodies v && eqb (kind_of r) ef) (size_of r) 0

-- where the body of slot s starts, and how many bytes it has: all that follows speaks of these two
unfoldable pub start_at : List ℕ → ℕ → ℕ
start_at img s = start_of (rec_at img s)

unfoldable pub body_at : List ℕ → ℕ → ℕ
body_at img s = body_of (version_of img) (rec_at img s)

-- what the body of slot s holds
unfoldable pub body_bytes : List ℕ → List ℕ → ℕ → List ℕ
body_bytes img pool s = part pool (start_at img s) (body_at img s)
