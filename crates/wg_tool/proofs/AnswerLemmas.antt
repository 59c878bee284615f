-- From what is told to what an answer concludes.
use Rattle.std.proofs.Common.{◌≡◌, ℕ, List, [], Option, sym, subst, inl, inr}
use Rattle.std.specs.Prelude.{◌⊎◌}
use Rattle.wg_io.specs.Causes.{Appends}
use Rattle.wg_tool.specs.declared.answer.Answer.{Answer}
use Rattle.wg_tool.specs.declared.answer.Answer.TheVariants.{Done, Refused, Usage, BadScript, ReadFault, WriteFault, OutOfMemory, TooLong}
use Rattle.wg_tool.specs.Answers.{BeginsText, Concludes, WritesText}

-- an answer with a text of its own
abbrev pub IsPrinted : Answer → Type 0
IsPrinted WriteFault = ⊥
IsPrinted OutOfMemory = ⊥
IsPrinted Done = Unit {0}
IsPrinted Refused = Unit {0}
IsPrinted Usage = Unit {0}
IsPrinted BadScript = Unit {0}
IsPrinted (ReadFault i) = Unit {0}
IsPrinted (TooLong i) = Unit {0}

whole : (says : Answer → List ℕ → Type 0) (wanted : Answer) (text : List ℕ) (old new : Option (List ℕ)) (b n : ℕ) → IsPrinted wanted → says wanted text → Appends old new text → n ≡ b → Concludes says old new b n wanted
whole says WriteFault text old new b n p s a e = absurd p
whole says OutOfMemory text old new b n p s a e = absurd p
whole says Done text old new b n p s a e = (text, s, a, e)
whole says Refused text old new b n p s a e = (text, s, a, e)
whole says Usage text old new b n p s a e = (text, s, a, e)
whole says BadScript text old new b n p s a e = (text, s, a, e)
whole says (ReadFault i) text old new b n p s a e = (text, s, a, e)
whole says (TooLong i) text old new b n p s a e = (text, s, a, e)

-- what is told concludes
pub told : (says : Answer → List ℕ → Type 0) (wanted : Answer) (text : List ℕ) (old new : Option (List ℕ)) (b n : ℕ) (given : Answer) → IsPrinted wanted → says wanted text → WritesText wanted text old new b n given → Concludes says old new b n given
told says wanted text old new b n given p s (inl h) = subst (λ (a : Answer). Concludes says old new b n a) (sym h.0) (whole says wanted text old new b n p s h.1 h.2)
told says wanted text old new b n given p s (inr h) = subst (λ (a : Answer). Concludes says old new b n a) (sym h.0) (h.1, (wanted, text, s, h.2))

begun : (P Q : Answer → List ℕ → Type 0) (old new : Option (List ℕ)) → ((a : Answer) (t : List ℕ) → P a t → Q a t) → BeginsText P old new → BeginsText Q old new
begun P Q old new f h = (h.0, h.1, f h.0 h.1 h.2, h.3)

-- another cause of the same texts
pub lifted : (P Q : Answer → List ℕ → Type 0) (old new : Option (List ℕ)) (b n : ℕ) (given : Answer) → ((a : Answer) (t : List ℕ) → P a t → Q a t) → Concludes P old new b n given → Concludes Q old new b n given
lifted P Q old new b n WriteFault f h = (h.0, begun P Q old new f h.1)
lifted P Q old new b n OutOfMemory f h = (h.0, either h.1)
  where
    either : Appends old new [] ⊎ BeginsText P old new → Appends old new [] ⊎ BeginsText Q old new
    either (inl k) = inl k
    either (inr k) = inr (begun P Q old new f k)
lifted P Q old new b n Done f h = (h.0, f Done h.0 h.1, h.2, h.3)
lifted P Q old new b n Refused f h = (h.0, f Refused h.0 h.1, h.2, h.3)
lifted P Q old new b n Usage f h = (h.0, f Usage h.0 h.1, h.2, h.3)
lifted P Q old new b n BadScript f h = (h.0, f BadScript h.0 h.1, h.2, h.3)
lifted P Q old new b n (ReadFault i) f h = (h.0, f (ReadFault i) h.0 h.1, h.2, h.3)
lifted P Q old new b n (TooLong i) f h = (h.0, f (TooLong i) h.0 h.1, h.2, h.3)
