-- The byte after the last token of a text has a column of 32 bits.
use Rattle.std.proofs.Common.{◌≡◌, ℕ, zero, suc, ◌+◌, ◌-◌, ◌<◌, ◌≤◌, ◌^◌, List, [], ◌∷◌, length, slice_get, take, not, refl, subst, sym, arith, Option, Some, None, min}
use Rattle.std.specs.List.{suffix_len}
use Rattle.std.proofs.lemmas.List.{length-take}
use Rattle.std.proofs.lemmas.List.Sums.{suffix_len-le-length}
use Rattle.wg_words.specs.Each.{Each}
use Rattle.wg_tokens.specs.declared.token.Token.{Token}
use Rattle.wg_words.specs.Characters.{is_line_feed}
use Rattle.wg_tokens.specs.Spelling.{Matter, blank, comment, token}
use Rattle.wg_tokens.specs.Cut.{Piece, size_of, tokens_of}
use Rattle.wg_tokens.specs.LexicalRules.{most_bytes}
use Rattle.wg_parse.specs.Faults.{IsOfText, in_32_bits, end_of, last}

abbrev Fits : Token → Type 0
Fits t = t.place.column + (t.to - t.from) < 2 ^ 32

abbrev LastFits : Option Token → Type 0
LastFits None = Unit {0}
LastFits (Some t) = Fits t

get_fits : (ts : List Token) (i : ℕ) → Each Fits ts → LastFits (slice_get ts i)
get_fits [] i h = tt
get_fits (t ∷ ts) zero h = h.0
get_fits (t ∷ ts) (suc i) h = get_fits ts i h.1

column_fits : (text : List ℕ) (at size : ℕ) → at + size ≤ most_bytes → suffix_len (λ b. not (is_line_feed b)) (take at text) + 1 + (at + size - at) < 2 ^ 32
column_fits text at size l = omega (arith, suffix_len-le-length (λ b. not (is_line_feed b)) (take at text), length-take at text)

each_fits : (text : List ℕ) (at : ℕ) (pieces : List Piece) → at + size_of pieces ≤ most_bytes → Each Fits (tokens_of text at pieces)
each_fits text at [] l = tt
each_fits text at (p ∷ ps) l = go p.matter refl (each_fits text (at + p.size) ps (omega (arith, l)))
  where
    go : (m : Matter) → p.matter ≡ m → Each Fits (tokens_of text (at + p.size) ps) → Each Fits (tokens_of text at (p ∷ ps))
    go blank e later = rw e later
    go comment e later = rw e later
    go (token kind) e later = rw e (column_fits text at p.size (omega (arith, l)), later)

exact : (t : Option Token) → LastFits t → in_32_bits (end_of t) ≡ end_of t
exact None h = refl
exact (Some t) h = let e : min (t.place.column + (t.to - t.from)) (2 ^ 32 - 1) ≡ t.place.column + (t.to - t.from) = omega (arith, h) in rw e refl

pub end_fits : (tokens : List Token) → IsOfText tokens → in_32_bits (end_of (last tokens)) ≡ end_of (last tokens)
end_fits tokens h = exact (last tokens) (get_fits tokens (length tokens - 1) (subst (Each Fits) (sym h.1.3) (each_fits h.0 0 h.1.0 (omega (arith, h.2, h.1.2)))))
