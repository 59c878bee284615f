-- The list of faults holds the broken rules, and no others.
use Rattle.std.proofs.Common.{◌≡◌, ◌⊎◌, ℕ, List, [], ◌∷◌, ◌++◌, inl, inr, refl, ap, subst}
use Rattle.wg_words.specs.declared.place.Place.{Place}
use Rattle.wg_typing.specs.Sites.{Sites, nowhere, only, within, ◌&◌, Among, In}
use Rattle.wg_typing.specs.Faults.{typing_rules, tagged, faults_at, faults_in, faults, attribute_rules, attribute_faults}
use Rattle.wg_typing.specs.Typing.{typing_number, places, sites, Breaks, IsWellTyped}
use Rattle.wg_tree.specs.declared.item.Source.{Source}
use Rattle.wg_typing.specs.Attributes.{attribute_number, attribute_places, BreaksAttributes, AreRight}
use Rattle.wg_typing.specs.AttributeSites.{sites_of}
use Rattle.wg_typed.specs.declared.typed.Typed.{Typed}
use Rattle.wg_typing.specs.declared.fault.Fault.{Fault}
use Rattle.wg_typing.specs.declared.fault.TypingRule.{TypingRule}
use Rattle.wg_typing.specs.declared.fault.AttributeRule.{AttributeRule}
use Rattle.wg_typing.specs.declared.fault.TypingRule.TheVariants.{UnknownName, Repeated, Mismatch, NotAssignable, Recursion, LimitPassed, BadBarrier, BadOutputCall, NotCompleted, WrongArity, OutOfProfile}
use Rattle.wg_typing.specs.declared.fault.AttributeRule.TheVariants.{Unknown, Missing, Twice, Range, WrongMode}

-- ---- members of lists

in_left : {A : Type 0} (xs ys : List A) (x : A) → In xs x → In (xs ++ ys) x
in_left [] ys x h = absurd h
in_left (y ∷ xs) ys x (inl e) = inl e
in_left (y ∷ xs) ys x (inr h) = inr (in_left xs ys x h)

in_right : {A : Type 0} (xs ys : List A) (x : A) → In ys x → In (xs ++ ys) x
in_right [] ys x h = h
in_right (y ∷ xs) ys x h = inr (in_right xs ys x h)

in_either : {A : Type 0} (xs ys : List A) (x : A) → In (xs ++ ys) x → In xs x ⊎ In ys x
in_either [] ys x h = inr h
in_either (y ∷ xs) ys x (inl e) = inl (inl e)
in_either (y ∷ xs) ys x (inr h) = later (in_either xs ys x h)
  where
    later : In xs x ⊎ In ys x → In (y ∷ xs) x ⊎ In ys x
    later (inl k) = inl (inr k)
    later (inr k) = inr k

none_left : {A : Type 0} (xs : List A) (x : A) → xs ≡ [] → In xs x → ⊥
none_left xs x e h = subst (λ ys. In ys x) e h

-- ---- one rule at one site

tagged_in : (n : ℕ) (ps : List Place) (p : Place) → In ps p → In (tagged n ps) (record { rule = n; place = p })
tagged_in n [] p h = absurd h
tagged_in n (q ∷ ps) p (inl e) = inl (ap (λ (q : Place). record { rule = n; place = q }) e)
tagged_in n (q ∷ ps) p (inr h) = inr (tagged_in n ps p h)

in_tagged : (n : ℕ) (ps : List Place) (f : Fault) → In (tagged n ps) f → (n ≡ f.rule) × In ps f.place
in_tagged n [] f h = absurd h
in_tagged n (q ∷ ps) f (inl e) = (ap (λ (f : Fault). f.rule) e, inl (ap (λ (f : Fault). f.place) e))
in_tagged n (q ∷ ps) f (inr h) = let r = in_tagged n ps f h in (r.0, inr r.1)

-- ---- all rules of a list

record Said {R S : Type 0} (number : R → ℕ) (where_broken : R → S → List Place) (f : Fault) (s : S) : Type 0 where
  pub rule : R
  pub numbered : number rule ≡ f.rule
  pub broken : In (where_broken rule s) f.place

said : {R S : Type 0} (number : R → ℕ) (where_broken : R → S → List Place) (rules : List R) (s : S) (f : Fault) → In (faults_at number where_broken rules s) f → Said number where_broken f s
said number where_broken [] s f h = absurd h
said number where_broken (r ∷ rules) s f h = either (said number where_broken rules s f) (in_either (tagged (number r) (where_broken r s)) _ f h)
  where
    either : (In (faults_at number where_broken rules s) f → Said number where_broken f s) → In (tagged (number r) (where_broken r s)) f ⊎ In (faults_at number where_broken rules s) f → Said number where_broken f s
    either later (inl k) = let q = in_tagged (number r) (where_broken r s) f k in record { rule = r; numbered = q.0; broken = q.1 }
    either later (inr k) = later k

tells : {R S : Type 0} (number : R → ℕ) (where_broken : R → S → List Place) (rules : List R) (s : S) (r : R) (p : Place) → In rules r → In (where_broken r s) p → In (faults_at number where_broken rules s) (record { rule = number r; place = p })
tells number where_broken [] s r p h k = absurd h
tells number where_broken (x ∷ rules) s r p (inl e) k =
    subst (λ r. In (where_broken r s) p → In (tagged (number x) (where_broken x s) ++ faults_at number where_broken rules s) (record { rule = number r; place = p })) e
    (λ k. in_left (tagged (number x) (where_broken x s)) _ _ (tagged_in (number x) (where_broken x s) p k)) k
tells number where_broken (x ∷ rules) s r p (inr h) k = in_right (tagged (number x) (where_broken x s)) _ _ (tells number where_broken rules s r p h k)

-- ---- all sites

record Found {S : Type 0} (at : S → List Fault) (f : Fault) (all : Sites S) : Type 0 where
  pub site : S
  pub stands : Among all site
  pub here : In (at site) f

found : {S : Type 0} (at : S → List Fault) (all : Sites S) (f : Fault) → In (faults_in at all) f → Found at f all
found at nowhere f h = absurd h
found at (only s) f h = record { site = s; stands = refl; here = h }
found at (within r a) f h = let q = found at a f h in record { site = q.site; stands = q.stands; here = q.here }
found at (a & b) f h = either (found at a f) (found at b f) (in_either (faults_in at a) _ f h)
  where
    either : (In (faults_in at a) f → Found at f a) → (In (faults_in at b) f → Found at f b) → In (faults_in at a) f ⊎ In (faults_in at b) f → Found at f (a & b)
    either left right (inl k) = let q = left k in record { site = q.site; stands = inl q.stands; here = q.here }
    either left right (inr k) = let q = right k in record { site = q.site; stands = inr q.stands; here = q.here }

told : {S : Type 0} (at : S → List Fault) (all : Sites S) (s : S) (f : Fault) → Among all s → In (at s) f → In (faults_in at all) f
told at nowhere s f h k = absurd h
told at (only x) s f h k = subst (λ s. In (at s) f → In (at x) f) h (λ k. k) k
told at (within r a) s f h k = told at a s f h k
told at (a & b) s f (inl h) k = in_left (faults_in at a) _ f (told at a s f h k)
told at (a & b) s f (inr h) k = in_right (faults_in at a) _ f (told at b s f h k)

-- ---- the rules of types

every_rule : (r : TypingRule) → In typing_rules r
every_rule UnknownName = inl refl
every_rule Repeated = inr (inl refl)
every_rule Mismatch = inr (inr (inl refl))
every_rule NotAssignable = inr (inr (inr (inl refl)))
every_rule Recursion = inr (inr (inr (inr (inl refl))))
every_rule LimitPassed = inr (inr (inr (inr (inr (inl refl)))))
every_rule BadBarrier = inr (inr (inr (inr (inr (inr (inl refl))))))
every_rule BadOutputCall = inr (inr (inr (inr (inr (inr (inr (inl refl)))))))
every_rule NotCompleted = inr (inr (inr (inr (inr (inr (inr (inr (inl refl))))))))
every_rule WrongArity = inr (inr (inr (inr (inr (inr (inr (inr (inr (inl refl)))))))))
every_rule OutOfProfile = inr (inr (inr (inr (inr (inr (inr (inr (inr (inr (inl refl))))))))))

pub are_breaks : (tree : Source) (f : Fault) → In (faults tree) f → (rule : TypingRule) × (typing_number rule ≡ f.rule) × Breaks rule f.place tree
are_breaks tree f h =
    let q = found (faults_at typing_number places typing_rules) (sites tree) f h in
    let r = said typing_number places typing_rules q.site f q.here in
    (r.rule, r.numbered, record { site = q.site; stands = q.stands; breaks = r.broken })

pub are_faults : (tree : Source) (rule : TypingRule) (p : Place) → Breaks rule p tree → In (faults tree) (record { rule = typing_number rule; place = p })
are_faults tree rule p b =
    told (faults_at typing_number places typing_rules) (sites tree) b.site _ b.stands (tells typing_number places typing_rules b.site rule p (every_rule rule) b.breaks)

pub none_broken : (tree : Source) → faults tree ≡ [] → IsWellTyped tree
none_broken tree e = record { unbroken = λ rule p b. none_left (faults tree) _ e (are_faults tree rule p b) }

-- ---- the rules of attributes

every_attribute_rule : (r : AttributeRule) → In attribute_rules r
every_attribute_rule Unknown = inl refl
every_attribute_rule Missing = inr (inl refl)
every_attribute_rule Twice = inr (inr (inl refl))
every_attribute_rule Range = inr (inr (inr (inl refl)))
every_attribute_rule WrongMode = inr (inr (inr (inr (inl refl))))

pub are_attribute_breaks : (typed : Typed) (f : Fault) → In (attribute_faults typed) f → (rule : AttributeRule) × (attribute_number rule ≡ f.rule) × BreaksAttributes rule f.place typed
are_attribute_breaks typed f h =
    let q = found (faults_at attribute_number attribute_places attribute_rules) (sites_of typed) f h in
    let r = said attribute_number attribute_places attribute_rules q.site f q.here in
    (r.rule, r.numbered, (q.site, q.stands, r.broken))

pub are_attribute_faults : (typed : Typed) (rule : AttributeRule) (p : Place) → BreaksAttributes rule p typed → In (attribute_faults typed) (record { rule = attribute_number rule; place = p })
are_attribute_faults typed rule p b =
    told (faults_at attribute_number attribute_places attribute_rules) (sites_of typed) b.0 _ b.1 (tells attribute_number attribute_places attribute_rules b.0 rule p (every_attribute_rule rule) b.2)

pub none_wrong : (typed : Typed) → attribute_faults typed ≡ [] → AreRight typed
none_wrong typed e rule p b = none_left (attribute_faults typed) _ e (are_attribute_faults typed rule p b)
