-- A text of the first form is one list of pairs.
use Rattle.std.proofs.Common.{◌≡◌, ◌≢◌, ℕ, ◌^◌, ◌<◌, true, false, List, [], ◌∷◌, ◌++◌, get_or, Option, Some, None, refl, ap, sym, ◌∙◌, subst, append_assoc}
use Rattle.std.specs.Prelude.{IsTrue, ◌==◌}
use Rattle.std.specs.Fmt.{decimal}
use Rattle.std.proofs.lemmas.List.{append_cancel_left, append-nil}
use Rattle.wg_words.specs.Each.{Each}
use Rattle.wg_tool.specs.declared.pair.Pair.{Pair}
use Rattle.wg_tool.specs.declared.pair.Sends.{Sends}
use Rattle.wg_tool.specs.declared.pair.TheConstants.{STRUCT_LINE, PAIR_HEAD, INPUT, QUIET, OPENS, REQUESTS, ADDS, ENDS}
use Rattle.wg_tool.specs.Parts.{is_name, ends_name}
use Rattle.wg_tool.specs.FirstForm.{head_text, target_text, sending_text, sends_text, pair_text, pairs_text, graph_text, IsGoodSends, IsGoodPair, IsFirstForm}
use Rattle.wg_tool.proofs.PartLemmas.{name_once, word_once}

-- the same text, grouped to the right
pub regrouped : (a b d more : List ℕ) → (a ++ (b ++ d)) ++ more ≡ a ++ (b ++ (d ++ more))
regrouped a b d more = simp append_assoc

pub all_regrouped : (a b d e f more : List ℕ) → (a ++ (b ++ (d ++ (e ++ f)))) ++ more ≡ a ++ (b ++ (d ++ (e ++ (f ++ more))))
all_regrouped a b d e f more = simp append_assoc

-- what follows a part in a text
pub after_part : (bytes part rest other : List ℕ) → bytes ≡ part ++ rest → bytes ≡ part ++ other → rest ≡ other
after_part bytes part rest other p q = append_cancel_left part rest other (sym p ∙ q)

pub head_joined : (bytes a b name rest : List ℕ) → bytes ≡ PAIR_HEAD.now ++ a → a ≡ name ++ b → b ≡ INPUT.now ++ rest → bytes ≡ head_text name ++ rest
head_joined bytes a b name rest p q r = rw (p, q, r) (sym (regrouped PAIR_HEAD.now name INPUT.now rest))

-- what the name of a text's head and what follows it are
pub head_named : (bytes a b name other more : List ℕ) → bytes ≡ PAIR_HEAD.now ++ a → a ≡ name ++ b → IsTrue (is_name name) → IsTrue (ends_name b) → IsTrue (is_name other) → bytes ≡ head_text other ++ more → (name ≡ other) × (b ≡ INPUT.now ++ more)
head_named bytes a b name other more p q is ends good e =
    let rest = after_part bytes PAIR_HEAD.now a (other ++ (INPUT.now ++ more)) p (e ∙ regrouped PAIR_HEAD.now other INPUT.now more) in
    name_once name other b (INPUT.now ++ more) is good ends refl (sym q ∙ rest)

head_once : (m n a b : List ℕ) → IsTrue (is_name m) → IsTrue (is_name n) → head_text m ++ a ≡ head_text n ++ b → (m ≡ n) × (a ≡ b)
head_once m n a b p q e =
    let h = head_named (head_text m ++ a) (m ++ (INPUT.now ++ a)) (INPUT.now ++ a) m n b (regrouped PAIR_HEAD.now m INPUT.now a) refl p refl q e in
    (h.0, append_cancel_left INPUT.now a b h.1)

pub target_joined : (bytes a b d f name rest : List ℕ) → bytes ≡ OPENS.now ++ a → a ≡ name ++ b → b ≡ REQUESTS.now ++ d → d ≡ name ++ f → f ≡ ADDS.now ++ rest → bytes ≡ target_text name ++ rest
target_joined bytes a b d f name rest p q r s t = rw (p, q, r, s, t) (sym (all_regrouped OPENS.now name REQUESTS.now name ADDS.now rest))

-- what the name of a target and what follows it are
pub target_named : (bytes a b name other more : List ℕ) → bytes ≡ OPENS.now ++ a → a ≡ name ++ b → IsTrue (is_name name) → IsTrue (ends_name b) → IsTrue (is_name other) → bytes ≡ target_text other ++ more → (name ≡ other) × (b ≡ REQUESTS.now ++ (name ++ (ADDS.now ++ more)))
target_named bytes a b name other more p q is ends good e =
    let rest = after_part bytes OPENS.now a (other ++ (REQUESTS.now ++ (other ++ (ADDS.now ++ more)))) p (e ∙ all_regrouped OPENS.now other REQUESTS.now other ADDS.now more) in
    let h = name_once name other b (REQUESTS.now ++ (other ++ (ADDS.now ++ more))) is good ends refl (sym q ∙ rest) in
    (h.0, h.1 ∙ ap (λ (t : List ℕ). REQUESTS.now ++ (t ++ (ADDS.now ++ more))) (sym h.0))

pub target_once : (m n a b : List ℕ) → IsTrue (is_name m) → IsTrue (is_name n) → target_text m ++ a ≡ target_text n ++ b → (m ≡ n) × (a ≡ b)
target_once m n a b p q e =
    let h = target_named (target_text m ++ a) (m ++ (REQUESTS.now ++ (m ++ (ADDS.now ++ a)))) (REQUESTS.now ++ (m ++ (ADDS.now ++ a))) m n b (all_regrouped OPENS.now m REQUESTS.now m ADDS.now a) refl p refl q e in
    (h.0, append_cancel_left ADDS.now a b (append_cancel_left m _ _ (append_cancel_left REQUESTS.now _ _ h.1)))

pub sending_joined : (bytes a b target rest : List ℕ) (add : ℕ) → bytes ≡ target_text target ++ a → a ≡ decimal add ++ b → b ≡ ENDS.now ++ rest → bytes ≡ sending_text target add ++ rest
sending_joined bytes a b target rest add p q r = rw (p, q, r) (sym (regrouped (target_text target) (decimal add) ENDS.now rest))

-- what follows the target of what is sent
pub sending_after : (bytes a target other more : List ℕ) (add : ℕ) → IsTrue (is_name target) → bytes ≡ target_text target ++ a → IsTrue (is_name other) → bytes ≡ sending_text other add ++ more → (target ≡ other) × (a ≡ decimal add ++ (ENDS.now ++ more))
sending_after bytes a target other more add is p good e =
    target_once target other a (decimal add ++ (ENDS.now ++ more)) is good (sym p ∙ (e ∙ regrouped (target_text other) (decimal add) ENDS.now more))

sending_once : (m n a b : List ℕ) (v w : ℕ) → IsTrue (is_name m) → IsTrue (is_name n) → v < 2 ^ 32 → w < 2 ^ 32 → sending_text m v ++ a ≡ sending_text n w ++ b → (m ≡ n) × (v ≡ w) × (a ≡ b)
sending_once m n a b v w p q f g e =
    let h = sending_after (sending_text m v ++ a) (decimal v ++ (ENDS.now ++ a)) m n b w p (regrouped (target_text m) (decimal v) ENDS.now a) q e in
    let k = word_once v w (ENDS.now ++ a) (ENDS.now ++ b) f g refl refl h.1 in
    (h.0, k.0, append_cancel_left ENDS.now a b k.1)

pub true_is_not_false : true ≡ false → ⊥
true_is_not_false e = absurd (cc)

-- a second line that sends nothing is none that sends
quiet_sends_not : (a target more : List ℕ) (add : ℕ) → QUIET.now ++ a ≡ sending_text target add ++ more → ⊥
quiet_sends_not a target more add e = true_is_not_false (ap (λ (t : List ℕ). get_or t 0 0 == 41) e)

sends_once : (s t : Option Sends) (a b : List ℕ) → IsGoodSends s → IsGoodSends t → sends_text s ++ a ≡ sends_text t ++ b → (s ≡ t) × (a ≡ b)
sends_once None None a b p q e = (refl, append_cancel_left QUIET.now a b e)
sends_once None (Some t) a b p q e = absurd (quiet_sends_not a t.target b t.add e)
sends_once (Some s) None a b p q e = absurd (quiet_sends_not b s.target a s.add (sym e))
sends_once (Some s) (Some t) a b p q e =
    let h = sending_once s.target t.target a b s.add t.add p.0 q.0 p.1 q.1 e in
    let same : s ≡ t = sends_is s.target t.target s.add t.add h.0 h.1 in
    (ap (λ (x : Sends). Some x) same, h.2)
  where
    sends_is : (m n : List ℕ) (v w : ℕ) → m ≡ n → v ≡ w → let r : Sends = record { target = m; add = v } in let o : Sends = record { target = n; add = w } in r ≡ o
    sends_is m n v w x y = rw (x, y) refl

pair_is : (m n : List ℕ) (s t : Option Sends) → m ≡ n → s ≡ t → let r : Pair = record { name = m; sends = s } in let o : Pair = record { name = n; sends = t } in r ≡ o
pair_is m n s t x y = rw (x, y) refl

-- what follows the head of a pair
pub pair_after : (bytes a name more : List ℕ) (p : Pair) → IsTrue (is_name name) → bytes ≡ head_text name ++ a → IsGoodPair p → bytes ≡ pair_text p ++ more → (name ≡ p.name) × (a ≡ sends_text p.sends ++ more)
pair_after bytes a name more p is h good e =
    head_once name p.name a (sends_text p.sends ++ more) is good.name (sym h ∙ (e ∙ append_assoc (head_text p.name) (sends_text p.sends) more))

-- a text begins with one pair
pub pair_once : (p q : Pair) (a b : List ℕ) → IsGoodPair p → IsGoodPair q → pair_text p ++ a ≡ pair_text q ++ b → (p ≡ q) × (a ≡ b)
pair_once p q a b g h e =
    let k = pair_after (pair_text p ++ a) (sends_text p.sends ++ a) p.name b q g.name (append_assoc (head_text p.name) (sends_text p.sends) a) h e in
    let s = sends_once p.sends q.sends a b g.sends h.sends k.1 in
    (pair_is p.name q.name p.sends q.sends k.0 s.0, s.1)

-- a text that starts with neither second line is no pair's
pub no_pair : (rest more : List ℕ) (s : Option Sends) → IsGoodSends s → ((after : List ℕ) → rest ≢ QUIET.now ++ after) → ((target : List ℕ) (add : ℕ) (after : List ℕ) → IsTrue (is_name target) → add < 2 ^ 32 → rest ≢ sending_text target add ++ after) → rest ≢ sends_text s ++ more
no_pair rest more None good quiet sending = λ e. quiet more e
no_pair rest more (Some s) good quiet sending = λ e. sending s.target s.add more good.0 good.1 e

pub pairs_text_push : (pairs : List Pair) (p : Pair) → pairs_text (pairs ++ p ∷ []) ≡ pairs_text pairs ++ pair_text p
pairs_text_push [] p = append-nil (pair_text p)
pairs_text_push (q ∷ pairs) p = ap (λ (t : List ℕ). pair_text q ++ t) (pairs_text_push pairs p) ∙ sym (append_assoc (pair_text q) (pairs_text pairs) (pair_text p))

pub each_push : {A : Type 0} → (P : A → Type 0) (xs : List A) (x : A) → Each P xs → P x → Each P (xs ++ x ∷ [])
each_push P [] x all p = (p, tt)
each_push P (y ∷ xs) x all p = (all.0, each_push P xs x all.1 p)

-- what is left of the pairs of a text, after one more pair
pub only_more : (rest after : List ℕ) (so_far ps : List Pair) (p : Pair) → IsGoodPair p → rest ≢ [] → rest ≡ pair_text p ++ after → (tail : List Pair) → ps ≡ so_far ++ tail → Each IsGoodPair tail → rest ≡ pairs_text tail → (more : List Pair) × (ps ≡ (so_far ++ p ∷ []) ++ more) × Each IsGoodPair more × (after ≡ pairs_text more)
only_more rest after so_far ps p good some e [] h all q = absurd (some q)
only_more rest after so_far ps p good some e (x ∷ xs) h all q =
    let same = pair_once x p (pairs_text xs) after all.0 good (sym q ∙ e) in
    (xs, h ∙ (ap (λ (y : Pair). so_far ++ y ∷ xs) same.0 ∙ sym (append_assoc so_far (p ∷ []) xs)), all.1, sym same.1)

-- a text that is left has a first pair
pub first_pair : (rest : List ℕ) (tail : List Pair) → rest ≢ [] → Each IsGoodPair tail → rest ≡ pairs_text tail → (p : Pair) × (more : List ℕ) × IsGoodPair p × (rest ≡ pair_text p ++ more)
first_pair rest [] some all q = absurd (some q)
first_pair rest (x ∷ xs) some all q = (x, pairs_text xs, all.0, q)

pub pairs_once : (ps qs : List Pair) → Each IsGoodPair ps → Each IsGoodPair qs → pairs_text ps ≡ pairs_text qs → ps ≡ qs
pairs_once [] [] p q e = refl
pairs_once [] (y ∷ qs) p q e = absurd (cc)
pairs_once (x ∷ ps) [] p q e = absurd (cc)
pairs_once (x ∷ ps) (y ∷ qs) p q e =
    let h = pair_once x y (pairs_text ps) (pairs_text qs) p.0 q.0 e in
    let t = pairs_once ps qs p.1 q.1 h.1 in
    rw (h.0, t) refl

-- one text has one list of pairs
pub graph_once : (ps qs : List Pair) → Each IsGoodPair ps → Each IsGoodPair qs → graph_text ps ≡ graph_text qs → ps ≡ qs
graph_once ps qs p q e = pairs_once ps qs p q (append_cancel_left STRUCT_LINE.now _ _ e)

-- what reads a pair that sends has found it
pub sender_found : (bytes a name target rest copied aimed : List ℕ) (add : ℕ) → bytes ≡ head_text name ++ a → a ≡ sending_text target add ++ rest → IsTrue (is_name name) → IsTrue (is_name target) → add < 2 ^ 32 → copied ≡ name → aimed ≡ target
    → let s : Sends = record { target = aimed; add = add } in let p : Pair = record { name = copied; sends = Some s } in IsGoodPair p × (bytes ≡ pair_text p ++ rest)
sender_found bytes a name target rest copied aimed add p q is aim few u v =
    rw (u, v) (record { name = is; sends = (aim, few) }, p ∙ (ap (λ (t : List ℕ). head_text name ++ t) q ∙ sym (append_assoc (head_text name) (sending_text target add) rest)))

-- the pairs of a text of the first form are those that were read
pub form_read : (text bytes : List ℕ) (given ps : List Pair) → Each IsGoodPair given → text ≡ STRUCT_LINE.now ++ bytes → bytes ≡ pairs_text given → IsFirstForm ps → text ≡ graph_text ps → IsFirstForm given
form_read text bytes given ps good p q form e =
    let same : ps ≡ given = graph_once ps given form.each good (sym e ∙ (p ∙ ap (λ (t : List ℕ). STRUCT_LINE.now ++ t) q)) in
    subst (λ (l : List Pair). IsFirstForm l) same form
