-- Words of 32 bits: four bits of kind and 28 of value, written first byte highest.
use Rattle.std.specs.Prelude.{ℕ, ◌+◌, ◌*◌, ◌/◌, ◌%◌, List, [], ◌∷◌, slice_index}
use Rattle.dayfile.specs.Kinds.{word_kind_number}
use Rattle.dayfile.specs.declared.kind.WordKind.{WordKind}

-- the word of a kind and a value
abbrev pub word : WordKind → ℕ → ℕ
word kind value = word_kind_number kind * 268435456 + value

-- the four bytes that a word is written as
abbrev pub bytes_of : ℕ → List ℕ
bytes_of w = w / 16777216 ∷ w / 65536 % 256 ∷ w / 256 % 256 ∷ w % 256 ∷ []

-- the word whose first byte stands at a place of a list
abbrev pub word_at : List ℕ → ℕ → ℕ
word_at xs at = slice_index xs at * 16777216 + slice_index xs (at + 1) * 65536 + slice_index xs (at + 2) * 256 + slice_index xs (at + 3)

abbrev pub kind_at : List ℕ → ℕ → ℕ
kind_at xs at = word_at xs at / 268435456

abbrev pub value_at : List ℕ → ℕ → ℕ
value_at xs at = word_at xs at % 268435456
