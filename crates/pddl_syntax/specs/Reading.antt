-- What the result of a reader says about the trees that it walks over.

use Rattle.std.specs.Prelude.{ℕ, Bool, true, false, ◌≡◌, ◌≢◌, List, [], ◌∷◌, Option, Some, None, is_some, Result, Ok, Err}
use Rattle.pddl_syntax.specs.declared.fault.FaultKind.TheVariants.{OutOfMemory}
use Rattle.pddl_syntax.specs.declared.fault.ReadFault.{ReadFault}
use Rattle.pddl_words.specs.Words.{is_name}
use Rattle.pddl_syntax.specs.declared.walk.NameWord.{NameWord}
use Rattle.pddl_syntax.specs.Keywords.{object_word}
use Rattle.pddl_syntax.specs.ReadFault.{out_of_memory}
use Rattle.pddl_syntax.specs.Trees.{Trees, word, list}
use Rattle.pddl_syntax.specs.declared.walk.Word.{Word}
use Rattle.smallvec.specs.SmallVec.{SmallVec}
use Rattle.pddl_syntax.specs.Forms.{name_forms}
use Rattle.pddl_syntax.specs.Syntax.{leading_name, leading_word}
use Rattle.pddl_syntax.specs.TypesAhead.{typing, typing_of}
use Rattle.pddl_syntax.specs.Levels.{Levels}
use Rattle.pddl_syntax.specs.Walking.{behind}

-- the fault is that memory ran out, and then it has no span, or the fact holds
abbrev pub Refuses : ReadFault → Type 0 → Type 0
Refuses e fact = (e.kind ≡ OutOfMemory → e ≡ out_of_memory) × (e.kind ≢ OutOfMemory → fact)

-- reads the rest of the list that the walk is in, up to and with its `)`
abbrev pub ReadsList : {X Y : Type 0} → (X → Y) → Result X ReadFault → (Trees → Option Y) → Levels → Levels → Type 0
ReadsList view (Ok x) read old new = (read old.top ≡ Some (view x)) × (new ≡ behind old.below)
ReadsList view (Err e) read old new = Refuses e (read old.top ≡ None)

-- tests the rest of the list that the walk is in, and leaves the list
abbrev pub PassesList : Result (Unit {0}) ReadFault → (Trees → Bool) → Levels → Levels → Type 0
PassesList (Ok _) test old new = (test old.top ≡ true) × (new ≡ behind old.below)
PassesList (Err e) test old new = Refuses e (test old.top ≡ false)

-- as `ReadsList`, with the value in `after`
abbrev pub ReadsInto : {Y : Type 0} → Result (Unit {0}) ReadFault → (Trees → Option Y) → Levels → Levels → Y → Type 0
ReadsInto (Ok _) read old new after = (read old.top ≡ Some after) × (new ≡ behind old.below)
ReadsInto (Err e) read old new after = Refuses e (read old.top ≡ None)

-- steps over something at the front
abbrev pub ReadsFront : Result (Unit {0}) ReadFault → (Trees → Option Trees) → Levels → Levels → Type 0
ReadsFront (Ok _) read old new = (read old.top ≡ Some new.top) × (new.below ≡ old.below)
ReadsFront (Err e) read old new = Refuses e (read old.top ≡ None)

-- enters the list at the front
abbrev pub Enters : Result (Unit {0}) ReadFault → (Trees → Option Trees) → Levels → Levels → Type 0
Enters (Ok _) read old new = (old.top ≡ list new.top (behind new.below).top) × (old.below ≡ (behind new.below).below)
Enters (Err e) read old new = Refuses e (read old.top ≡ None)

-- steps over the name at the front, if there is one
abbrev pub TakesName : Result NameWord ReadFault → Levels → Levels → Type 0
TakesName (Ok name) old new = (old.top ≡ word name.text.now new.top) × (is_name name.text.now ≡ true) × (new.below ≡ old.below)
TakesName (Err e) old new = Refuses e (leading_name old.top ≡ None)

-- steps over the word at the front, if it passes the test
abbrev pub TakesWord : Result Word ReadFault → (List ℕ → Bool) → Levels → Levels → Type 0
TakesWord (Ok w) test old new = (old.top ≡ word w.text.now new.top) × (test w.text.now ≡ true) × (new.below ≡ old.below)
TakesWord (Err e) test old new = Refuses e (leading_word test old.top ≡ None)

-- steps over the types at the front
abbrev pub TakesTypes : Result (SmallVec NameWord) ReadFault → Levels → Levels → Type 0
TakesTypes (Ok types) old new = (typing_of old.top ≡ Some (typing new.top (name_forms types.items))) × (new.below ≡ old.below)
TakesTypes (Err e) old new = Refuses e (typing_of old.top ≡ None)

-- gives the type `object` alone, or memory ran out
abbrev pub GivesObject : Result (SmallVec NameWord) ReadFault → Type 0
GivesObject (Ok types) = name_forms types.items ≡ object_word ∷ []
GivesObject (Err e) = e ≡ out_of_memory

-- gives the name, or memory ran out
abbrev pub ReadsName : Result (List ℕ) ReadFault → List ℕ → Type 0
ReadsName (Ok name) expected = name ≡ expected
ReadsName (Err e) expected = e ≡ out_of_memory

-- allows what passes the test
abbrev pub Allows : Result (Unit {0}) ReadFault → Bool → Type 0
Allows (Ok _) test = test ≡ true
Allows (Err e) test = Refuses e (test ≡ false)

-- gives the value, if there is one
abbrev pub Gives : {X Y : Type 0} → (X → Y) → Result X ReadFault → Option Y → Type 0
Gives view (Ok x) defined = defined ≡ Some (view x)
Gives view (Err e) defined = Refuses e (defined ≡ None)

-- gives the value, which is known to be there, or memory ran out
abbrev pub GivesAgain : {X Y : Type 0} → (X → Y) → Result X ReadFault → Y → Type 0
GivesAgain view (Ok x) known = view x ≡ known
GivesAgain view (Err e) known = e ≡ out_of_memory

-- as `Gives`, with the value in `after`
abbrev pub Puts : {Y : Type 0} → Result (Unit {0}) ReadFault → Option Y → Y → Type 0
Puts (Ok _) defined after = defined ≡ Some after
Puts (Err e) defined after = Refuses e (defined ≡ None)

-- gives the value or that there is none, or memory ran out
abbrev pub GivesOption : {X : Type 0} → Result (Option X) ReadFault → Option X → Type 0
GivesOption (Ok x) defined = defined ≡ x
GivesOption (Err e) defined = e ≡ out_of_memory

-- finds an item that passes the test, if there is one, or memory ran out
abbrev pub FindsAny : {X : Type 0} → Result (Option X) ReadFault → Bool → Type 0
FindsAny (Ok found) test = is_some found ≡ test
FindsAny (Err e) test = e ≡ out_of_memory

-- gives the result of the test, or memory ran out
abbrev pub GivesTest : Result Bool ReadFault → Bool → Type 0
GivesTest (Ok answer) test = answer ≡ test
GivesTest (Err e) test = e ≡ out_of_memory
