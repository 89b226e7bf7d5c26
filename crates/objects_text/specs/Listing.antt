-- The listing of CREATE's data (01 "CREATE", data): its objects in turn, where they stop, and how CREATE reads them.
use Rattle.std.specs.Prelude.{ℕ, zero, suc, ◌-◌, Bool, cond, ◌&&◌, List, [], ◌∷◌, ◌++◌, eqb, ltb, length, get_or}
use Rattle.std.specs.Prelude.{Option, Some, None, is_some}
use Rattle.template.specs.declared.Object.{Object}
use Rattle.create_data.specs.declared.Data.{Data}
use Rattle.create_data.specs.declared.Data.TheVariants.{Df, Ef}
use Rattle.template.specs.Objects.{object_at, objects_of}
use Rattle.create_data.specs.Data.{is_template, data_of}
use Rattle.reader.specs.Places.{place_after}
use Rattle.text.specs.Written.{big}
use Rattle.objects_text.specs.Lines.{mark_line, tag_and_length, life_line, end, break, head, df, ef}
use Rattle.objects_text.specs.Lines.{later_df, later_ef, third_df, third_ef, bad}

-- what stands behind tag and length: of 8A its life cycle, if it is one byte; else the line ends
unfoldable pub rest_of : List ℕ → Object → List ℕ
rest_of s x =
    cond (eqb x.tag 0x8A && eqb (x.value.end - x.value.start) 1) ((32 ∷ []) ++ life_line (get_or s x.value.start 0)) (10 ∷ [])

-- the line of the object at a place, if one is whole there
abbrev pub line_of : List ℕ → ℕ → Option Object → List ℕ
line_of s at None = []
line_of s at (Some x) = mark_line at (tag_and_length x.tag (x.value.end - x.value.start)) ++ rest_of s x

unfoldable pub whole_at : List ℕ → ℕ → Bool
whole_at s at = is_some (object_at s at)

unfoldable pub line_at : List ℕ → ℕ → List ℕ
line_at s at = line_of s at (object_at s at)

-- where the objects stop: at the end of the data, or before
unfoldable pub stop_at : List ℕ → ℕ → List ℕ
stop_at s at = mark_line at (cond (eqb at (length s)) end break)

-- the lines from `at` on. An object has two bytes at least, so that as many turns as the data has bytes are enough
unfoldable pub lines_from : ℕ → List ℕ → ℕ → List ℕ
lines_from zero s at = stop_at s at
lines_from (suc turns) s at = cond (whole_at s at) (line_at s at ++ lines_from turns s (place_after s at)) (stop_at s at)

-- data that is not 62, LL and LL bytes
unfoldable pub head_of : List ℕ → List ℕ
head_of s = cond (is_template s) [] (mark_line 0 head)

-- the word for data that are taken: that for a DF, or that for an EF
abbrev pub told : List ℕ → List ℕ → Data → List ℕ
told df_word ef_word (Df x) = df_word
told df_word ef_word (Ef x) = ef_word

-- what CREATE makes of data on a card of version 1, and so of any (`DataAlike` in create_data/specs/Grammar), as a word; of data that it
-- refuses there, what on a card of version 2, which takes longer rules than version 3; of data that it refuses there too, what on a card
-- of version 3, which has one more form
abbrev pub word_of : Option Data → Option Data → Option Data → List ℕ
word_of (Some x) later third = told df ef x
word_of None (Some x) third = told later_df later_ef x
word_of None None (Some x) = told third_df third_ef x
word_of None None None = bad

-- .. behind the place up to which it takes the objects in 01's order
unfoldable pub reading_of : List ℕ → List ℕ
reading_of s = mark_line (objects_of s).next (word_of (data_of 1 s) (data_of 2 s) (data_of 3 s))

-- CREATE's data has at most 255 bytes, since Lc is one byte
unfoldable pub list_of : List ℕ → List ℕ
list_of s = cond (ltb 255 (length s)) big ((head_of s ++ lines_from (length s) s 2) ++ reading_of s)
