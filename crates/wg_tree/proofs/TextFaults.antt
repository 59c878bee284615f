-- A text is read just where it is spelled, and to the first token at which it fails.
use Rattle.std.proofs.Common.{◌≡◌, ℕ, ◌+◌, ◌≤◌, List, [], ◌∷◌, ◌++◌, length, refl, sym, ◌∙◌, ap, subst, append_assoc, length-append, arith, inl, inr}
use Rattle.std.proofs.lemmas.List.{append-nil, map-append, length-map}
use Rattle.wg_tokens.specs.declared.token.Token.{Token}
use Rattle.wg_tree.specs.declared.item.Source.{Source}
use Rattle.wg_grammar.specs.Reading.{Reading, Got, Wrong, Deep}
use Rattle.wg_grammar.specs.Depths.{plain, Shallow}
use Rattle.wg_grammar.specs.Productions.{spells}
use Rattle.wg_grammar.proofs.Kept.{SameHead, Kept}
use Rattle.wg_grammar.proofs.Splits.{heads_same, compare, cut_plain, cut_next, shallow_front, shallow_at, first_same}
use Rattle.wg_grammar.proofs.Fine as f
use Rattle.wg_grammar.proofs.Limits.{cancel}
use Rattle.wg_tokens.specs.Classes.{class}
use Rattle.wg_tree.specs.Depths.{Depth, Within}
use Rattle.wg_tree.specs.GrammarItem.{text, outer_rules, Spells, IsViable}
use Rattle.wg_tree.specs.ReadsItem.{read_text}
use Rattle.wg_tree.specs.ParseFaults.{SpelledWithin, NoneTooDeep, FirstTooDeep, CannotFollow, IsExpected, IsTooDeep, Answer, spelled, expected, too_deep, IsAnswer}
use Rattle.wg_tree.proofs.TextExact.{complete, text_more, raise}
use Rattle.wg_tree.proofs.TextFine.{text_fine}
use Rattle.wg_tree.proofs.TextLimits.{Ends, ends}

abbrev Cells : Type 0
Cells = List (Token × Depth)

abbrev Result : Type 0
Result = Reading Token Source

got_deep : (x : Source) (b c : List Token) → ◌≡◌ {A = Result} (Got x b) (Deep c) → ⊥
got_deep x b c e = cc

wrong_deep : (b c : List Token) → ◌≡◌ {A = Result} (Wrong b) (Deep c) → ⊥
wrong_deep b c e = cc

same_deep : (b c : List Token) → ◌≡◌ {A = Result} (Deep b) (Deep c) → b ≡ c
same_deep b c e = cc

plain_at : (front : Cells) (t : Token) (d : Depth) (rest : Cells) → plain (front ++ (t, d) ∷ rest) ≡ plain front ++ t ∷ plain rest
plain_at front t d rest = map-append (λ z. z.0) front ((t, d) ∷ rest)

-- ---- what is read

-- what is read to the end is spelled so
pub sound : (room : ℕ) (tokens : List Token) (tree : Source) → read_text room tokens ≡ Got tree [] → SpelledWithin room tokens tree
sound room tokens tree e = go (read_text room tokens) e ((text_fine ⊥ room room (omega arith) (λ z. absurd z)).says tokens)
  where
    go : (o : Result) → o ≡ Got tree [] → f.Says ⊥ (Within room) (spells class (outer_rules room) text) tokens o → SpelledWithin room tokens tree
    go (Got y b) q k = let same : y ≡ tree = cc in let none : b ≡ [] = cc in
        (k.0, sym (k.1 ∙ ap (λ z. plain k.0 ++ z) none ∙ append-nil (plain k.0)), k.2, (room, subst (λ z. spells class (outer_rules room) text z k.0 []) same (subst (λ z. spells class (outer_rules room) text y z []) (append-nil k.0) (k.3 []))))
    go (Wrong b) q k = absurd (cc)
    go (Deep b) q k = absurd (cc)

pub whole : (room : ℕ) (tokens : List Token) (tree : Source) → SpelledWithin room tokens tree → read_text room tokens ≡ Got tree []
whole room tokens tree h = elim (ends room h.0 tree h.3) [
  | inl a ↦ ap (read_text room) (sym h.1) ∙ a.3
  | inr a ↦ absurd (a.6 (shallow_at (Within room) a.0 a.1 a.2 a.3 (subst (λ z. Shallow (Within room) z) a.4 h.2)))
]

-- ---- where reading stops at a token that is too deep

all_shallow : (room : ℕ) (cells front : Cells) → cells ≡ front ++ [] → Shallow (Within room) front → Shallow (Within room) cells
all_shallow room cells front e h = subst (λ z. Shallow (Within room) z) (sym (e ∙ append-nil front)) h

stops : (room : ℕ) (cells more : Cells) (t : Token) (d : Depth) (tree : Source) → Spells (cells ++ (t, d) ∷ more) tree → Shallow (Within room) cells → (Within room d → ⊥) → (ts : List Token) → read_text room (plain cells ++ t ∷ ts) ≡ Deep (t ∷ ts)
stops room cells more t d tree h s n ts = elim (ends room (cells ++ (t, d) ∷ more) tree h) [
  | inl a ↦ absurd (n (shallow_at (Within room) cells t d more (all_shallow room (cells ++ (t, d) ∷ more) a.0 a.1 a.2)))
  | inr a ↦ let k = first_same (Within room) cells t d more a.0 a.1 a.2 a.3 a.4 s a.5 n a.6 in
      let same : a.1 ≡ t = sym (ap (λ z. z.0) (heads_same (t, d) (a.1, a.2) more a.3 k.1).0) in
      subst (λ u. read_text room (plain cells ++ u ∷ ts) ≡ Deep (u ∷ ts)) same (subst (λ z. read_text room (plain z ++ a.1 ∷ ts) ≡ Deep (a.1 ∷ ts)) (sym k.0) (a.7 ts))
]

every : (room : ℕ) (front : List Token) (t : Token) → ((ts : List Token) → read_text room (front ++ t ∷ ts) ≡ Deep (t ∷ ts)) → FirstTooDeep room front t
every room front t h cells more d tree p k = go (ends room (cells ++ (t, d) ∷ more) tree k)
  where
    read : read_text room (plain (cells ++ (t, d) ∷ more)) ≡ Deep (t ∷ plain more)
    read = ap (read_text room) (plain_at cells t d more ∙ ap (λ z. z ++ t ∷ plain more) p) ∙ h (plain more)

    go : Ends room tree (cells ++ (t, d) ∷ more) → Shallow (Within room) cells × (Within room d → ⊥)
    go (inl a) = absurd (got_deep tree [] (t ∷ plain more) (sym a.3 ∙ read))
    go (inr a) =
        let e : a.1 ∷ plain a.3 ≡ t ∷ plain more = same_deep (a.1 ∷ plain a.3) (t ∷ plain more) (sym (a.7 (plain a.3)) ∙ ap (read_text room) (sym (ap plain a.4 ∙ plain_at a.0 a.1 a.2 a.3)) ∙ read) in
        elim (compare cells ((t, d) ∷ more) a.0 ((a.1, a.2) ∷ a.3) a.4) [
          | inl q ↦ (subst (λ z. Shallow (Within room) z) (sym q.0) a.5, subst (λ z. Within room z → ⊥) (sym (ap (λ z. z.1) (heads_same (t, d) (a.1, a.2) more a.3 q.1).0)) a.6)
          | inr q ↦ elim q [
            | inl x ↦ absurd (omega (arith, ap length e, length-map a.3 (λ z. z.0), length-map more (λ z. z.0), ap length x.3, length-append x.1 ((a.1, a.2) ∷ a.3)))
            | inr x ↦ absurd (omega (arith, ap length e, length-map a.3 (λ z. z.0), length-map more (λ z. z.0), ap length x.3, length-append x.1 ((t, d) ∷ more)))
          ]
        ]

-- where reading does not stop so, no token before is too deep
none_deep : (room : ℕ) (front rest : List Token) → ((b : List Token) → read_text room (front ++ rest) ≡ Deep b → ⊥) → NoneTooDeep room front
none_deep room front rest h cells more tree p k = elim (ends room (cells ++ more) tree k) [
  | inl a ↦ shallow_front (Within room) cells more (all_shallow room (cells ++ more) a.0 a.1 a.2)
  | inr a ↦ elim (compare cells more a.0 ((a.1, a.2) ∷ a.3) a.4) [
    | inl q ↦ subst (λ z. Shallow (Within room) z) (sym q.0) a.5
    | inr q ↦ elim q [
      | inl x ↦ shallow_front (Within room) cells (x.0 ∷ x.1) (subst (λ z. Shallow (Within room) z) x.2 a.5)
      | inr x ↦ let same : (a.1, a.2) ≡ x.0 = (heads_same (a.1, a.2) x.0 a.3 (x.1 ++ more) x.3).0 in
          let tokens : front ≡ plain a.0 ++ a.1 ∷ plain x.1 = sym p ∙ ap plain (x.2 ∙ ap (λ z. a.0 ++ z ∷ x.1) (sym same)) ∙ plain_at a.0 a.1 a.2 x.1 in
          absurd (h (a.1 ∷ (plain x.1 ++ rest)) (ap (λ z. read_text room (z ++ rest)) tokens ∙ ap (read_text room) (append_assoc (plain a.0) (a.1 ∷ plain x.1) rest) ∙ a.7 (plain x.1 ++ rest)))
    ]
  ]
]

-- ---- what cannot follow

abbrev NoTree : Result → Type 0
NoTree o = (tree : Source) → o ≡ Got tree [] → ⊥

-- with more room and another rest with the same first token, no tree
abbrev Stays : ℕ → List Token → List Token → Type 0
Stays room front rest = (more : ℕ) → room ≤ more → (b : List Token) → SameHead rest b → NoTree (read_text more (front ++ b))

cannot : (room : ℕ) (front rest : List Token) → Stays room front rest → CannotFollow front rest
cannot room front [] h = λ cells tree e k.
    let more = room + k.0 in
    let read = raise k.0 more (plain cells) tree (omega arith) (complete k.0 cells tree k.1) in
    h more (omega arith) [] refl tree (ap (read_text more) (append-nil front ∙ sym e) ∙ read)
cannot room front (t ∷ later) h = λ v.
    let cells = v.0 in let rest = v.1 in let more = room + v.4.0 in
    let read = raise v.4.0 more (plain (cells ++ rest)) v.2 (omega arith) (complete v.4.0 (cells ++ rest) v.2 v.4.1) in
    h more (omega arith) (t ∷ plain rest) refl v.2 (ap (read_text more) (sym (map-append (λ z. z.0) cells rest ∙ ap (λ z. z ++ plain rest) v.3 ∙ append_assoc front (t ∷ []) (plain rest))) ∙ read)

wrong_stays : (room : ℕ) (tokens front rest : List Token) → read_text room tokens ≡ Wrong rest → tokens ≡ front ++ rest → Stays room front rest
wrong_stays room tokens front rest e s more l b h tree q = go (read_text room tokens) e ((text_more room more l).at tokens)
  where
    go : (o : Result) → o ≡ Wrong rest → Kept (λ i o. read_text more i ≡ o) tokens o → ⊥
    go (Got y c) g k = cc
    go (Wrong c) g k = let same : c ≡ rest = cc in
        let f : k.0 ≡ front = cancel k.0 front rest (ap (λ z. k.0 ++ z) (sym same) ∙ sym k.1 ∙ s) in
        let r : read_text more (k.0 ++ b) ≡ Wrong b = k.2 b (subst (λ z. SameHead z b) (sym same) h) in
        let w : Wrong b ≡ Got tree [] = sym r ∙ ap (λ z. read_text more (z ++ b)) f ∙ q in cc
    go (Deep c) g k = cc

left_stays : (room : ℕ) (tokens front : List Token) (x : Source) (t : Token) (later : List Token) → read_text room tokens ≡ Got x (t ∷ later) → tokens ≡ front ++ t ∷ later → Stays room front (t ∷ later)
left_stays room tokens front x t later e s more l [] h tree q = absurd (cc)
left_stays room tokens front x t later e s more l (u ∷ b) h tree q = go (read_text room tokens) e ((text_more room more l).at tokens)
  where
    go : (o : Result) → o ≡ Got x (t ∷ later) → Kept (λ i o. read_text more i ≡ o) tokens o → ⊥
    go (Got y c) g k = let same : c ≡ t ∷ later = cc in
        let f : k.0 ≡ front = cancel k.0 front (t ∷ later) (ap (λ z. k.0 ++ z) (sym same) ∙ sym k.1 ∙ s) in
        let r : read_text more (k.0 ++ u ∷ b) ≡ Got y (u ∷ b) = k.2 (u ∷ b) (subst (λ z. SameHead z (u ∷ b)) (sym same) h) in
        let w : Got y (u ∷ b) ≡ Got tree [] = sym r ∙ ap (λ z. read_text more (z ++ u ∷ b)) f ∙ q in cc
    go (Wrong c) g k = cc
    go (Deep c) g k = cc

-- ---- what begins a text

spelled_viable : (cells : Cells) (front : List Token) (tree : Source) → plain cells ≡ front → Spells cells tree → IsViable front
spelled_viable cells front tree p h = (cells, [], tree, p, (h.0, subst (λ z. spells class (outer_rules h.0) text tree z []) (sym (append-nil cells)) h.1))

viable_front : (a b : List Token) → IsViable (a ++ b) → IsViable a
viable_front a b v = let k = cut_plain v.0 a b v.3 in
    (k.0, k.1 ++ v.1, v.2, k.3, (v.4.0, subst (λ z. spells class (outer_rules v.4.0) text v.2 z []) (ap (λ z. z ++ v.1) k.2 ∙ append_assoc k.0 k.1 v.1) v.4.1))

-- with the next token too
viable_next : (front : List Token) (t : Token) (later : List Token) → IsViable (front ++ t ∷ later) → IsViable (front ++ (t ∷ []))
viable_next front t later v = viable_front (front ++ (t ∷ [])) later (subst IsViable (sym (append_assoc front (t ∷ []) later)) v)

-- ---- faults

-- what an outcome of reading must leave
expects : (room : ℕ) (tokens rest : List Token) (cells more : Cells) (tree : Source) → tokens ≡ plain cells ++ rest → Spells (cells ++ more) tree → ((b : List Token) → read_text room tokens ≡ Deep b → ⊥) → Stays room (plain cells) rest → IsExpected room tokens rest
expects room tokens rest cells more tree s h n k = (plain cells, s, (cells, more, tree, refl, h), none_deep room (plain cells) rest (λ b q. n b (ap (read_text room) s ∙ q)), cannot room (plain cells) rest k)

pub left : (room : ℕ) (tokens : List Token) (tree : Source) (t : Token) (later : List Token) → read_text room tokens ≡ Got tree (t ∷ later) → IsExpected room tokens (t ∷ later)
left room tokens tree t later e = go (read_text room tokens) e ((text_fine ⊥ room room (omega arith) (λ z. absurd z)).says tokens)
  where
    go : (o : Result) → o ≡ Got tree (t ∷ later) → f.Says ⊥ (Within room) (spells class (outer_rules room) text) tokens o → IsExpected room tokens (t ∷ later)
    go (Got y b) q k = let same : b ≡ t ∷ later = cc in let s = k.1 ∙ ap (λ z. plain k.0 ++ z) same in
        expects room tokens (t ∷ later) k.0 [] y s (room, k.3 []) (λ b q. got_deep tree (t ∷ later) b (sym e ∙ q)) (left_stays room tokens (plain k.0) tree t later e s)
    go (Wrong b) q k = absurd (cc)
    go (Deep b) q k = absurd (cc)

pub wrong : (room : ℕ) (tokens rest : List Token) → read_text room tokens ≡ Wrong rest → IsExpected room tokens rest
wrong room tokens rest e = go (read_text room tokens) e ((text_fine (Unit {0}) room (room + 2) (omega arith) (λ z. omega arith)).says tokens)
  where
    go : (o : Result) → o ≡ Wrong rest → f.Says (Unit {0}) (Within room) (spells class (outer_rules (room + 2)) text) tokens o → IsExpected room tokens rest
    go (Got y b) q k = absurd (cc)
    go (Wrong b) q k = let same : b ≡ rest = cc in let s = k.1 ∙ ap (λ z. plain k.0 ++ z) same in let o = k.3 tt in
        expects room tokens rest k.0 o.0 o.1 s (room + 2, subst (λ z. spells class (outer_rules (room + 2)) text o.1 z []) (append-nil (k.0 ++ o.0)) (o.2 [])) (λ b q. wrong_deep rest b (sym e ∙ q)) (wrong_stays room tokens (plain k.0) rest e s)
    go (Deep b) q k = absurd (cc)

pub deep : (room : ℕ) (tokens rest : List Token) → read_text room tokens ≡ Deep rest → IsTooDeep room tokens rest
deep room tokens rest e = go (read_text room tokens) e ((text_fine (Unit {0}) room (room + 2) (omega arith) (λ z. omega arith)).says tokens)
  where
    go : (o : Result) → o ≡ Deep rest → f.Says (Unit {0}) (Within room) (spells class (outer_rules (room + 2)) text) tokens o → IsTooDeep room tokens rest
    go (Got y b) q k = absurd (cc)
    go (Wrong b) q k = absurd (cc)
    go (Deep b) q k = let same : b ≡ rest = cc in let o = k.8 tt in
        let h : Spells ((k.0 ++ ((k.3, k.4) ∷ [])) ++ o.0) o.1 = (room + 2, subst (λ z. spells class (outer_rules (room + 2)) text o.1 z []) (append-nil ((k.0 ++ ((k.3, k.4) ∷ [])) ++ o.0)) (o.2 [])) in
        let g : Spells (k.0 ++ (k.3, k.4) ∷ o.0) o.1 = (room + 2, subst (λ z. spells class (outer_rules (room + 2)) text o.1 z []) (append_assoc k.0 ((k.3, k.4) ∷ []) o.0) h.1) in
        (plain k.0, k.3, k.5, k.1 ∙ ap (λ z. plain k.0 ++ z) same, sym same ∙ k.6, (k.0 ++ ((k.3, k.4) ∷ []), o.0, o.1, plain_at k.0 k.3 k.4 [], h), every room (plain k.0) k.3 (stops room k.0 o.0 k.3 k.4 o.1 g k.2 k.7))

-- ---- one answer

-- what reading shows
abbrev answer_of : Result → Answer
answer_of (Got tree []) = spelled tree
answer_of (Got tree (t ∷ later)) = expected (t ∷ later)
answer_of (Wrong rest) = expected rest
answer_of (Deep rest) = too_deep rest

-- where a text is said to fail by a token too deep, reading stops
deep_read : (room : ℕ) (tokens rest : List Token) → IsTooDeep room tokens rest → read_text room tokens ≡ Deep rest
deep_read room tokens rest h =
    let front = h.0 in let t = h.1 in let v = h.5 in
    let k = cut_next v.0 front t [] v.3 in
    let c = k.0 in let d = k.1 in
    let g : Spells (c ++ (t, d) ∷ (k.2 ++ v.1)) v.2 = (v.4.0, subst (λ z. spells class (outer_rules v.4.0) text v.2 z []) (ap (λ z. z ++ v.1) k.3 ∙ append_assoc c ((t, d) ∷ k.2) v.1) v.4.1) in
    let w = h.6 c (k.2 ++ v.1) d v.2 k.4 g in
    let r : read_text room (plain c ++ t ∷ h.2) ≡ Deep (t ∷ h.2) = stops room c (k.2 ++ v.1) t d v.2 g w.0 w.1 h.2 in
    ap (read_text room) (h.3 ∙ ap (λ z. front ++ z) h.4 ∙ ap (λ z. z ++ t ∷ h.2) (sym k.4)) ∙ r ∙ ap Deep (sym h.4)

-- a token that cannot follow is not passed
not_passed : (front rest : List Token) (t : Token) (later : List Token) → rest ≡ t ∷ later → CannotFollow front rest → IsViable (front ++ (t ∷ [])) → ⊥
not_passed front rest t later e n v = subst (λ z. CannotFollow front z) e n v

same_expected : (room : ℕ) (tokens rest other : List Token) → IsExpected room tokens rest → IsExpected room tokens other → rest ≡ other
same_expected room tokens rest other h k = elim (compare h.0 rest k.0 other (sym h.1 ∙ k.1)) [
  | inl q ↦ q.1
  | inr q ↦ elim q [
    | inl x ↦ absurd (not_passed h.0 rest x.0 (x.1 ++ other) x.3 h.4 (viable_next h.0 x.0 x.1 (subst IsViable x.2 k.2)))
    | inr x ↦ absurd (not_passed k.0 other x.0 (x.1 ++ rest) x.3 k.4 (viable_next k.0 x.0 x.1 (subst IsViable x.2 h.2)))
  ]
]

-- at most one of the two faults
one_fault : (room : ℕ) (tokens rest other : List Token) → IsExpected room tokens rest → IsTooDeep room tokens other → ⊥
one_fault room tokens rest other h k = elim (compare h.0 rest k.0 other (sym h.1 ∙ k.3)) [
  | inl q ↦ not_passed h.0 rest k.1 k.2 (q.1 ∙ k.4) h.4 (subst (λ z. IsViable (z ++ (k.1 ∷ []))) (sym q.0) k.5)
  | inr q ↦ elim q [
    | inl x ↦ not_passed h.0 rest x.0 (x.1 ++ other) x.3 h.4 (viable_next h.0 x.0 x.1 (subst IsViable x.2 (viable_front k.0 (k.1 ∷ []) k.5)))
    | inr x ↦
        let same : x.0 ≡ k.1 = sym (heads_same k.1 x.0 k.2 (x.1 ++ rest) (sym k.4 ∙ x.3)).0 in
        let v = h.2 in
        let c = cut_next v.0 k.0 k.1 x.1 (v.3 ∙ x.2 ∙ ap (λ z. k.0 ++ z ∷ x.1) same) in
        let g : Spells (c.0 ++ (k.1, c.1) ∷ (c.2 ++ v.1)) v.2 = (v.4.0, subst (λ z. spells class (outer_rules v.4.0) text v.2 z []) (ap (λ z. z ++ v.1) c.3 ∙ append_assoc c.0 ((k.1, c.1) ∷ c.2) v.1) v.4.1) in
        (k.6 c.0 (c.2 ++ v.1) c.1 v.2 c.4 g).1 (shallow_at (Within room) c.0 k.1 c.1 c.2 (subst (λ z. Shallow (Within room) z) c.3 (h.3 v.0 v.1 v.2 v.3 v.4)))
  ]
]

-- what spells a tree does not fail
not_spelled : (room : ℕ) (tokens rest : List Token) (tree : Source) → SpelledWithin room tokens tree → IsExpected room tokens rest → ⊥
not_spelled room tokens [] tree h k = k.4 h.0 tree (h.1 ∙ k.1 ∙ append-nil k.0) h.3
not_spelled room tokens (t ∷ later) tree h k = k.4 (viable_next k.0 t later (subst IsViable k.1 (spelled_viable h.0 tokens tree h.1 h.3)))

expected_read : (room : ℕ) (tokens rest : List Token) → IsExpected room tokens rest → answer_of (read_text room tokens) ≡ expected rest
expected_read room tokens rest h = go (read_text room tokens) refl
  where
    go : (o : Result) → read_text room tokens ≡ o → answer_of o ≡ expected rest
    go (Got tree []) e = absurd (not_spelled room tokens rest tree (sound room tokens tree e) h)
    go (Got tree (t ∷ later)) e = ap expected (same_expected room tokens (t ∷ later) rest (left room tokens tree t later e) h)
    go (Wrong b) e = ap expected (same_expected room tokens b rest (wrong room tokens b e) h)
    go (Deep b) e = absurd (one_fault room tokens rest b h (deep room tokens b e))

answer_read : (room : ℕ) (tokens : List Token) (a : Answer) → IsAnswer room tokens a → answer_of (read_text room tokens) ≡ a
answer_read room tokens (spelled tree) h = ap answer_of (whole room tokens tree h)
answer_read room tokens (expected rest) h = expected_read room tokens rest h
answer_read room tokens (too_deep rest) h = ap answer_of (deep_read room tokens rest h)

pub some_answer : (room : ℕ) (tokens : List Token) → (a : Answer) × IsAnswer room tokens a
some_answer room tokens = go (read_text room tokens) refl
  where
    go : (o : Result) → read_text room tokens ≡ o → (a : Answer) × IsAnswer room tokens a
    go (Got tree []) e = (spelled tree, sound room tokens tree e)
    go (Got tree (t ∷ later)) e = (expected (t ∷ later), left room tokens tree t later e)
    go (Wrong b) e = (expected b, wrong room tokens b e)
    go (Deep b) e = (too_deep b, deep room tokens b e)

pub one_answer : (room : ℕ) (tokens : List Token) (a b : Answer) → IsAnswer room tokens a → IsAnswer room tokens b → a ≡ b
one_answer room tokens a b h k = sym (answer_read room tokens a h) ∙ answer_read room tokens b k
