-- The loop over the lines.
use Rattle.std.proofs.Common.{◌≡◌, ◌≢◌, ℕ, suc, ◌+◌, ◌≤◌, Bool, true, false, List, [], ◌∷◌, ◌++◌, length, replicate, Option, Some, None, Ok, Err, refl, sym, ap, subst, ◌∙◌, append_assoc, arith}
use Rattle.std.specs.Prelude.{if◌then◌else◌, unwrap_or}
use Rattle.std.specs.Option.{option_map}
use Rattle.std.specs.List.{filter_map, slice_split, onto_first}
use Rattle.std.proofs.lemmas.List.{append-nil, length-append}
use Rattle.std.proofs.lemmas.List.Elements.{filter_map-append}
use Rattle.wg_machine.specs.declared.shape.Shape.{Shape}
use Rattle.wg_script.specs.declared.numbers.Version.{Version}
use Rattle.wg_script.specs.declared.numbers.Version.TheVariants.{One}
use Rattle.wg_script.specs.declared.lines.Line.{Line}
use Rattle.wg_script.specs.declared.lines.Line.TheVariants.{Nothing}
use Rattle.wg_script.specs.declared.script.ScriptFault.{ScriptFault}
use Rattle.wg_script.specs.declared.script.ScriptFault.TheVariants as faults
use Rattle.wg_script.specs.Lines.{said_of, title_of, version_of, all_said}
use Rattle.wg_script.specs.Reading.{Sofar, line_added}
use Rattle.wg_script.specs.Rules.{rules, rules_of, AreGood, IsFirstFault}
use Rattle.wg_words.specs.Characters.{is_line_feed}
use Rattle.wg_script.specs.Words.{lines_from, lines_of, line_words}
use Rattle.wg_script.proofs.PieceLemmas.{pieces_some}
use Rattle.wg_script.proofs.FitLemmas.{Holds, holds_first, holds_more}
use Rattle.wg_script.proofs.GivenLemmas.{Stands, stands_first}
use Rattle.wg_script.proofs.GoodLemmas.{first_of, good_none, good_more, first_fault}
use Rattle.wg_script.proofs.RuleLemmas.{fault_of, line_fault, stands_more}

-- ---- how many lines a text has

pieces_few : (at : ℕ → Bool) (text : List ℕ) → length (slice_split at text) ≤ length text + 1
pieces_few at [] = omega arith
pieces_few at (c ∷ text) = choice (at c) (slice_split at text) (pieces_some at text) (pieces_few at text)
  where
    choice : (b : Bool) (pieces : List (List ℕ)) → pieces ≢ [] → length pieces ≤ length text + 1 → length (if b then [] ∷ pieces else onto_first c pieces) ≤ length (c ∷ text) + 1
    choice true pieces some h = omega arith
    choice false [] some h = absurd (some refl)
    choice false (p ∷ pieces) some h = omega arith

same_length : (pieces : List (List ℕ)) → length (lines_from pieces) ≡ length pieces
same_length [] = refl
same_length (last ∷ []) = refl
same_length (line ∷ next ∷ pieces) = ap suc (same_length (next ∷ pieces))

pub lines_few : (text : List ℕ) → length (lines_of text) ≤ length text + 1
lines_few text = let a = same_length (slice_split is_line_feed text) in let b = pieces_few is_line_feed text in omega arith

pub lines_some : (text : List ℕ) → lines_of text ≢ []
lines_some text e = choice (slice_split is_line_feed text) (pieces_some is_line_feed text) e
  where
    choice : (pieces : List (List ℕ)) → pieces ≢ [] → lines_from pieces ≡ [] → ⊥
    choice [] some h = some refl
    choice (l ∷ []) some h = absurd cc
    choice (l ∷ m ∷ ls) some h = absurd cc

-- ---- the title

bad_title : (shape : Shape) (title : List ℕ) → title_of (line_words title) ≡ None → first_of (rules shape [] title) ≡ Some (faults.Form 1)
bad_title shape title e = ap (λ (o : Option Version). first_of (rules_of shape 1 [] (option_map (λ (version : Version). Nothing) o))) e

good_title : (shape : Shape) (title : List ℕ) (version : Version) → title_of (line_words title) ≡ Some version → first_of (rules shape [] title) ≡ None
good_title shape title version e = ap (λ (o : Option Version). first_of (rules_of shape 1 [] (option_map (λ (version : Version). Nothing) o))) e

pub title_fault : (shape : Shape) (text title : List ℕ) (rest : List (List ℕ)) → lines_of text ≡ title ∷ rest → title_of (line_words title) ≡ None → IsFirstFault shape text (faults.Form 1)
title_fault shape text title rest e test = first_fault shape text [] title rest (faults.Form 1) e (good_none shape) (bad_title shape title test)

-- ---- the lines after it

-- the lines so far are good, and the draft is what they gave
pub record Goes (shape : Shape) (text : List ℕ) (version : Version) (s : Sofar) (lines : List (List ℕ)) (number : ℕ) : Type 0 where
  pub title : List ℕ
  pub of_title : version_of title ≡ version
  pub done : List (List ℕ)
  pub begins : lines_of text ≡ (title ∷ done) ++ lines
  pub good : AreGood shape (title ∷ done)
  pub stands : Stands shape s (filter_map (said_of version) done)
  pub holds : Holds shape s
  pub count : number ≡ length (title ∷ done)

pub goes_first : (shape : Shape) (text title : List ℕ) (version : Version) (rest : List (List ℕ)) → lines_of text ≡ title ∷ rest → title_of (line_words title) ≡ Some version → Goes shape text version (record { entries = []; given = replicate (length shape.buffers) None; asked = 0 }) rest 1
goes_first shape text title version rest e test =
    record { title = title; of_title = ap (λ (o : Option Version). unwrap_or o One) test; done = []; begins = e; good = good_more shape [] title (good_none shape) (good_title shape title version test); stands = stands_first shape; holds = holds_first shape (length shape.buffers); count = refl }

pub goes_few : (shape : Shape) (text : List ℕ) (version : Version) (s : Sofar) (lines : List (List ℕ)) (number : ℕ) → Goes shape text version s lines number → number + length lines ≤ length text + 1
goes_few shape text version s lines number g =
    let a = lines_few text in
    let b = ap (λ (l : List (List ℕ)). length l) g.begins in
    let c = g.count in
    omega (arith, length-append (g.title ∷ g.done) lines)

one_more : (version : Version) (done : List (List ℕ)) (line : List ℕ) (said : Line) → said_of version line ≡ Some said → filter_map (said_of version) (done ++ line ∷ []) ≡ filter_map (said_of version) done ++ said ∷ []
one_more version done line said e = filter_map-append (said_of version) done (line ∷ []) ∙ ap (λ (o : Option Line). filter_map (said_of version) done ++ filter_map (λ (l : List ℕ). o) (line ∷ [])) e

-- the first broken rule of a line, in the version of the title
in_version : (shape : Shape) (text : List ℕ) (version : Version) (s : Sofar) (line : List ℕ) (lines : List (List ℕ)) (number : ℕ) (g : Goes shape text version s lines number)
    → first_of (rules shape (g.title ∷ g.done) line) ≡ first_of (rules_of shape (length (g.title ∷ g.done) + 1) (filter_map (said_of version) g.done) (said_of version line))
in_version shape text version s line lines number g = ap (λ (v : Version). first_of (rules_of shape (length (g.title ∷ g.done) + 1) (filter_map (said_of v) g.done) (said_of v line))) g.of_title

-- reading a line that breaks no rule
pub goes_on : (shape : Shape) (text : List ℕ) (version : Version) (s new : Sofar) (line : List ℕ) (rest : List (List ℕ)) (number : ℕ) → Goes shape text version s (line ∷ rest) number → line_added shape (number + 1) s (said_of version line) ≡ Ok new → Goes shape text version new rest (number + 1)
goes_on shape text version s new line rest number g e = choice (said_of version line) refl e
  where
    choice : (o : Option Line) → said_of version line ≡ o → line_added shape (number + 1) s o ≡ Ok new → Goes shape text version new rest (number + 1)
    choice None is h = absurd cc
    choice (Some said) is h =
        let count = g.count in
        let none : first_of (rules shape (g.title ∷ g.done) line) ≡ None =
        in_version shape text version s line (line ∷ rest) number g
        ∙ (ap (λ (k : ℕ). first_of (rules_of shape (k + 1) (filter_map (said_of version) g.done) (said_of version line))) (sym count)
        ∙ (sym (line_fault shape (number + 1) s (filter_map (said_of version) g.done) (said_of version line) g.stands) ∙ ap fault_of e)) in
        record {
          title = g.title;
          of_title = g.of_title;
          done = g.done ++ line ∷ [];
          begins = g.begins ∙ sym (append_assoc (g.title ∷ g.done) (line ∷ []) rest);
          good = good_more shape (g.title ∷ g.done) line g.good none;
          stands = subst (λ (l : List Line). Stands shape new l) (sym (one_more version g.done line said is)) (stands_more shape (number + 1) s new (filter_map (said_of version) g.done) said g.stands h);
          holds = holds_more shape (number + 1) s new said g.holds h;
          count = omega (arith, length-append g.done (line ∷ []));
        }

-- and one that breaks a rule
pub goes_wrong : (shape : Shape) (text : List ℕ) (version : Version) (s : Sofar) (line : List ℕ) (rest : List (List ℕ)) (number : ℕ) (fault : ScriptFault) → Goes shape text version s (line ∷ rest) number → line_added shape (number + 1) s (said_of version line) ≡ Err fault → IsFirstFault shape text fault
goes_wrong shape text version s line rest number fault g e =
    first_fault shape text (g.title ∷ g.done) line rest fault g.begins g.good
    (in_version shape text version s line (line ∷ rest) number g ∙ (ap (λ (k : ℕ). first_of (rules_of shape (k + 1) (filter_map (said_of version) g.done) (said_of version line))) (sym g.count)
    ∙ (sym (line_fault shape (number + 1) s (filter_map (said_of version) g.done) (said_of version line) g.stands) ∙ ap fault_of e)))

-- the end
pub record Ends (shape : Shape) (text : List ℕ) (s : Sofar) : Type 0 where
  pub good : AreGood shape (lines_of text)
  pub stands : Stands shape s (all_said (lines_of text))

pub goes_end : (shape : Shape) (text : List ℕ) (version : Version) (s : Sofar) (number : ℕ) → Goes shape text version s [] number → Ends shape text s
goes_end shape text version s number g =
    let is : lines_of text ≡ g.title ∷ g.done = g.begins ∙ append-nil (g.title ∷ g.done) in
    record {
      good = subst (AreGood shape) (sym is) g.good;
      stands = subst (λ (l : List (List ℕ)). Stands shape s (all_said l)) (sym is) (subst (λ (v : Version). Stands shape s (filter_map (said_of v) g.done)) (sym g.of_title) g.stands);
    }

pub not_good : (shape : Shape) (text : List ℕ) (fault : ScriptFault) → IsFirstFault shape text fault → AreGood shape (lines_of text) → ⊥
not_good shape text fault f good = good f.before f.line f.after f.place fault f.begins f.broken
