-- The text of the lines: numbers in decimal, single spaces, a line feed at the end.
use Rattle.std.specs.Prelude.{ℕ, List, [], ◌∷◌, ◌++◌, decimal}
use Rattle.std.specs.List.{flat_map}
use Rattle.std.specs.Fmt.{signed_decimal}
use Rattle.market.specs.Terms.{mark_number, refusal_number, side_number}
use Rattle.play.specs.declared.line.Line.{Line}
use Rattle.play.specs.declared.line.Line.TheVariants.{Row, Refused, Total, Fault}

-- a space and a line feed
abbrev pub space : ℕ
space = 32

abbrev pub feed : ℕ
feed = 10

-- a row's five numbers; `R k n`; `T shares money`; `X p n`
abbrev pub text_of : Line → List ℕ
text_of (Row r) =
    decimal r.number ++ space ∷ (decimal (side_number r.side) ++ space ∷ (decimal r.shares ++ space ∷ (decimal r.price ++ space ∷ (decimal (mark_number r.mark) ++ feed ∷ []))))
text_of (Refused k reason) = 82 ∷ space ∷ (decimal k ++ space ∷ (decimal (refusal_number reason) ++ feed ∷ []))
text_of (Total shares money) = 84 ∷ space ∷ (signed_decimal shares ++ space ∷ (signed_decimal money ++ feed ∷ []))
text_of (Fault f) = 88 ∷ space ∷ (decimal f.place ++ space ∷ (decimal (refusal_number f.reason) ++ feed ∷ []))

abbrev pub texts_of : List Line → List ℕ
texts_of lines = flat_map text_of lines
