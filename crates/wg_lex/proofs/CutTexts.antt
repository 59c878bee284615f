-- What a text that is cut can break: at each place where a piece begins, one does.
use Rattle.std.proofs.Common.{◌≡◌, ℕ, ◌≤◌, Result, Ok, Err, IfErr, List, [], ◌∷◌, ◌++◌, length, take, drop, refl, ◌∙◌, ap, subst, arith}
use Rattle.std.proofs.lemmas.List.{append-nil, length-drop}
use Rattle.wg_tokens.specs.declared.token.Token.{Token}
use Rattle.wg_tokens.specs.Cut.{Piece, IsLongest, BeginsWith, size_of, Cuts}
use Rattle.wg_tokens.specs.LexicalRules.{LexicalRule, not_ascii, preprocessor, wide_literal, open_comment, stray_byte, most_bytes, IsBroken, Keeps}
use Rattle.wg_lex.specs.declared.fault.LexFault.{LexFault}
use Rattle.wg_lex.specs.declared.fault.LexFault.TheVariants as is
use Rattle.wg_lex.specs.Faults.{IsFault}
use Rattle.wg_lex.proofs.Cutting.{goes_on, drop_all, unbroken_end}
use Rattle.wg_lex.proofs.FirstFaults.{piece_is_ascii, piece_is_no_hash, piece_is_no_stray}

within : (text : List ℕ) (ps : List Piece) → BeginsWith text ps → size_of ps ≤ length text
within text [] h = omega arith
within text (p ∷ ps) h = let i = h.0.inside in let l = length-drop p.size text in let r = within (drop p.size text) ps h.1 in omega arith

-- what no piece breaks, no text that is cut breaks
module _ (rule : LexicalRule) (unbroken : (before text : List ℕ) (p : Piece) → IsLongest text p → IsBroken rule before text → ⊥) where
  here : (text : List ℕ) (at : ℕ) (whole pieces more : List Piece) → whole ≡ pieces ++ more → size_of whole ≡ length text → size_of pieces ≡ at → BeginsWith (drop at text) more → IsBroken rule (take at text) (drop at text) → ⊥
  here text at whole pieces [] e size before h b =
      let same : size_of whole ≡ at = ap size_of (e ∙ append-nil pieces) ∙ before in
      unbroken_end rule (take at text) (subst (IsBroken rule (take at text)) (drop_all text at (omega arith)) b)
  here text at whole pieces (p ∷ more) e size before h b = unbroken (take at text) (drop at text) p h.0 b

  pub keeps : (text : List ℕ) (tokens : List Token) → Cuts text tokens → Keeps text rule
  keeps text tokens (whole, begins, size, t) at ((pieces, cut, before), b) =
      let w = within text pieces cut in
      let on = goes_on text pieces whole cut begins (omega arith) in
      here text at whole pieces on.0 on.1 size before (subst (λ n. BeginsWith (drop n text) on.0) before on.2) b

pub keeps_ascii : (text : List ℕ) (tokens : List Token) → Cuts text tokens → Keeps text not_ascii
keeps_ascii = keeps not_ascii (λ before text p l b. piece_is_ascii text p l b)

pub keeps_hash : (text : List ℕ) (tokens : List Token) → Cuts text tokens → Keeps text preprocessor
keeps_hash = keeps preprocessor (λ before text p l b. piece_is_no_hash before text p l b)

pub keeps_stray : (text : List ℕ) (tokens : List Token) → Cuts text tokens → Keeps text stray_byte
keeps_stray = keeps stray_byte (λ before text p l b. piece_is_no_stray text p l b)

-- a text that is cut and keeps the other rules has no fault
no_fault : (text : List ℕ) (fault : LexFault) → IsFault text fault → (tokens : List Token) → Cuts text tokens → length text ≤ most_bytes → Keeps text wide_literal → Keeps text open_comment → fault ≡ is.Memory
no_fault text (is.NotAscii place) f tokens cut short wide opened = absurd (keeps_ascii text tokens cut f.1.0 f.1.1.broken)
no_fault text (is.Preprocessor place) f tokens cut short wide opened = absurd (keeps_hash text tokens cut f.1.0 f.1.1.broken)
no_fault text (is.WideLiteral place) f tokens cut short wide opened = absurd (wide f.1.0 f.1.1.broken)
no_fault text (is.OpenComment place) f tokens cut short wide opened = absurd (opened f.1.0 f.1.1.broken)
no_fault text (is.StrayByte place) f tokens cut short wide opened = absurd (keeps_stray text tokens cut f.1.0 f.1.1.broken)
no_fault text is.TextTooLong f tokens cut short wide opened = absurd (omega (arith, f, short))
no_fault text is.Memory f tokens cut short wide opened = refl

pub exact : {A : Type 0} (text : List ℕ) (result : Result A LexFault) → IfErr result (λ fault. IsFault text fault)
    → IfErr result (λ fault. (tokens : List Token) → Cuts text tokens → length text ≤ most_bytes → Keeps text wide_literal → Keeps text open_comment → fault ≡ is.Memory)
exact text (Ok found) h = h
exact text (Err fault) h = no_fault text fault h
