-- Readings that tell mentions are readings of languages with mentions.
use Rattle.std.proofs.Common.{◌≡◌, ℕ, List, [], ◌++◌, refl, sym, ap, subst, ◌∙◌, append_assoc}
use Rattle.std.proofs.lemmas.List.{append-nil}
use Rattle.ir_text.specs.Tokens.{Lexeme}
use Rattle.ir_text.specs.Language.{Language, ◌·◌, keyword, punctuation}
use Rattle.ir_text.specs.Mentions.{Mention, Mentioning, ◌⊙◌, silent}
use Rattle.ir_parts.specs.Reading.{Read, keyword_at, punctuation_at}
use Rattle.ir_parts.proofs.Readers.{IsReader, StopsAt, Anything, of_language, of_reading, mapped, followed, stops_at_all}
use Rattle.ir_parts.proofs.SingleTokens.{keyword_reads, sign_reads}
use Rattle.ir_body.specs.Telling.{Telling, give, behind, ◌>>=◌, ◌⊗◌, ◌▷◌, ◌◁◌, made, silently}

-- The reading is one of the language, with the mentions in each sentence.
pub record IsTeller {X : Type 0} (read : Telling X) (L : X → Mentioning) (Stop : X → Lexeme → Type 0) : Type 0 where
  pub reader : IsReader read (λ told ts. L told.0 told.1 ts) (λ told t. Stop told.0 t)

-- What ends the second doesn't continue the first.
abbrev pub Follows : {X Y : Type 0} → (X → Lexeme → Type 0) → (X → Y → Mentioning) → (Y → Lexeme → Type 0) → Type 0
Follows {X} {Y} StopA B StopB = (x : X) (y : Y) (ms : List Mention) (taken rest : List Lexeme) → B x y ms taken
    → StopsAt (StopB y) rest → StopsAt (StopA x) (taken ++ rest)

-- what has no mentions
pub silent_tells : {X : Type 0} {read : Read X} {L : X → List Lexeme → Type 0} {Stop : X → Lexeme → Type 0}
    → IsReader read L Stop → IsTeller (silently read) (λ x. silent (L x)) Stop
silent_tells {X} {read} {L} {Stop} reads =
    record {
      reader =
          of_language (λ told ts. silent (L told.0) told.1 ts)
          (λ told ts l. (
            ap (λ (p : X × List Mention). p.1) l.1,
            subst (λ (x : X). L x ts) (sym (ap (λ (p : X × List Mention). p.0) l.1)) l.2,
          ))
          (λ told ts l. (told.0, ap (λ (ms : List Mention). (told.0, ms)) l.0, l.1))
          (mapped (λ x. (x, [])) (λ told t. Stop told.0 t) (λ x t stop. stop) (λ x t stop. stop) reads);
    }

-- one after another
pub each_tells : {X Y : Type 0} {a : Telling X} {A : X → Mentioning} {StopA : X → Lexeme → Type 0}
    (f : X → Telling Y) (B : X → Y → Mentioning) (StopB : Y → Lexeme → Type 0)
    → IsTeller a A StopA
    → ((x : X) → IsTeller (f x) (B x) StopB)
    → Follows StopA B StopB
    → IsTeller (a >>= f) (λ y ms ts. (x : X) × (A x ⊙ B x y) ms ts) StopB
each_tells {X} {Y} {a} {A} {StopA} f B StopB first then_each follows =
    record {
      reader =
          of_language (λ told ts. (x : X) × (A x ⊙ B x told.0) told.1 ts) there back
          (followed (λ read rest. behind read.1 (f read.0 rest)) Behind (λ told t. StopB told.0 t) first.reader
          (λ read. mapped (λ told. (told.0, read.1 ++ told.1)) (λ told t. StopB told.0 t) (λ x t stop. stop)
          (λ x t stop. stop)
          (then_each read.0).reader)
          (λ read told taken rest l stops.
          follows read.0 told.0 l.0.1 taken rest
          (subst (λ (y : Y). B read.0 y l.0.1 taken) (sym (ap (λ (p : Y × List Mention). p.0) l.1)) l.2) stops));
    }
  where
    Behind : X × List Mention → Y × List Mention → List Lexeme → Type 0
    Behind read told ts = (other : Y × List Mention) × (told ≡ (other.0, read.1 ++ other.1))
        × B read.0 other.0 other.1 ts

    there : (told : Y × List Mention) (ts : List Lexeme)
        → (read : X × List Mention) × ((λ (us : List Lexeme). A read.0 read.1 us) · Behind read told) ts
        → (x : X) × (A x ⊙ B x told.0) told.1 ts
    there told ts l =
        let parts = l.1 in
        let b = parts.4 in (
          l.0.0,
          (
            l.0.1,
            b.0.1,
            ap (λ (p : Y × List Mention). p.1) b.1,
            (
              parts.0,
              parts.1,
              parts.2,
              parts.3,
              subst (λ (y : Y). B l.0.0 y b.0.1 parts.1) (sym (ap (λ (p : Y × List Mention). p.0) b.1)) b.2,
            ),
          ),
        )

    back : (told : Y × List Mention) (ts : List Lexeme)
        → (x : X) × (A x ⊙ B x told.0) told.1 ts
        → (read : X × List Mention) × ((λ (us : List Lexeme). A read.0 read.1 us) · Behind read told) ts
    back told ts l =
        let parts = l.1.3 in (
          (l.0, l.1.0),
          (
            parts.0,
            parts.1,
            parts.2,
            parts.3,
            ((told.0, l.1.1), ap (λ (ms : List Mention). (told.0, ms)) l.1.2, parts.4),
          ),
        )

module _ {Y : Type 0} {b : Telling Y} {B : Y → Mentioning} {Stop : Y → Lexeme → Type 0} where
  -- other words for the language
  pub told_as : (M : Y → Mentioning)
      → ((y : Y) (ms : List Mention) (ts : List Lexeme) → B y ms ts → M y ms ts)
      → ((y : Y) (ms : List Mention) (ts : List Lexeme) → M y ms ts → B y ms ts)
      → IsTeller b B Stop → IsTeller b M Stop
  told_as M there back reads =
      record {
        reader =
            of_language (λ told ts. M told.0 told.1 ts) (λ told ts l. there told.0 told.1 ts l)
            (λ told ts l. back told.0 told.1 ts l) reads.reader;
      }

  -- the same reading
  pub told_reading : (other : Telling Y) → ((ts : List Lexeme) → other ts ≡ b ts) → IsTeller b B Stop
      → IsTeller other B Stop
  told_reading other same reads = record { reader = of_reading other same reads.reader }

  -- what is made of all that was read
  pub made_tells : {Z : Type 0} (make : Y → Z) (Halt : Z → Lexeme → Type 0)
      → ((y : Y) (t : Lexeme) → Stop y t → Halt (make y) t)
      → ((y : Y) (t : Lexeme) → Halt (make y) t → Stop y t)
      → IsTeller b B Stop
      → IsTeller (b >>= λ y. give (make y)) (λ z ms ts. (y : Y) × (z ≡ make y) × B y ms ts) Halt
  made_tells {Z} make Halt there back reads =
      record {
        reader =
            of_language (λ told ts. (y : Y) × (told.0 ≡ make y) × B y told.1 ts)
            (λ told ts l. (
              l.0.0,
              ap (λ (p : Z × List Mention). p.0) l.1,
              subst (λ (ms : List Mention). B l.0.0 ms ts)
                  (sym (append-nil l.0.1) ∙ sym (ap (λ (p : Z × List Mention). p.1) l.1)) l.2,
            ))
            (λ told ts l. (
              (l.0, told.1),
              ap (λ (z : Z). (z, told.1)) l.1
                  ∙ ap (λ (ms : List Mention). (make l.0, ms)) (sym (append-nil told.1)),
              l.2,
            ))
            (mapped (λ read. (make read.0, read.1 ++ [])) (λ told t. Halt told.0 t)
            (λ read t stop. there read.0 t stop) (λ read t stop. back read.0 t stop) reads.reader);
      }

-- ---- several parts

-- what says nothing, and then something
pub skip : {Y : Type 0} {a : Telling (Unit {0})} {A : Mentioning} {b : Telling Y} {B : Y → Mentioning}
    {StopB : Y → Lexeme → Type 0}
    → IsTeller a (λ u. A) Anything → IsTeller b B StopB → IsTeller (a ▷ b) (λ y. A ⊙ B y) StopB
skip {A = A} {b = b} {B = B} {StopB = StopB} first next =
    told_as (λ y. A ⊙ B y) (λ y ms ts l. l.1) (λ y ms ts l. (tt, l))
    (each_tells (λ u. b) (λ u. B) StopB first (λ u. next)
    (λ u y ms taken rest l stops. stops_at_all (taken ++ rest) (λ t. tt)))

-- both values, where what ends the second doesn't continue the first
pub both_told : {X Y : Type 0} {a : Telling X} {b : Telling Y} {A : X → Mentioning} {B : Y → Mentioning}
    {StopA : X → Lexeme → Type 0} {StopB : Y → Lexeme → Type 0}
    → IsTeller a A StopA → IsTeller b B StopB → Follows StopA (λ x. B) StopB
    → IsTeller (a ⊗ b) (λ p. A p.0 ⊙ B p.1) (λ p. StopB p.1)
both_told {X} {Y} {a} {b} {A} {B} {StopA} {StopB} first next ends =
    told_as (λ p. A p.0 ⊙ B p.1) there back
    (each_tells (λ x. b >>= λ y. give (x, y)) With (λ p. StopB p.1) first
    (λ x. made_tells (λ y. (x, y)) (λ p. StopB p.1) (λ y t stop. stop) (λ y t stop. stop) next)
    (λ x p ms taken rest l stops. ends x l.0 ms taken rest l.2
    (subst (λ (p : X × Y). StopsAt (StopB p.1) rest) l.1 stops)))
  where
    With : X → X × Y → Mentioning
    With x p ms ts = (y : Y) × (p ≡ (x, y)) × B y ms ts

    there : (p : X × Y) (ms : List Mention) (ts : List Lexeme) → (x : X) × (A x ⊙ With x p) ms ts
        → (A p.0 ⊙ B p.1) ms ts
    there p ms ts l =
        let parts = l.1.3 in
        let with = parts.4 in (
          l.1.0,
          l.1.1,
          l.1.2,
          (
            parts.0,
            parts.1,
            parts.2,
            subst (λ (x : X). A x l.1.0 parts.0) (sym (ap (λ (p : X × Y). p.0) with.1)) parts.3,
            subst (λ (y : Y). B y l.1.1 parts.1) (sym (ap (λ (p : X × Y). p.1) with.1)) with.2,
          ),
        )

    back : (p : X × Y) (ms : List Mention) (ts : List Lexeme) → (A p.0 ⊙ B p.1) ms ts
        → (x : X) × (A x ⊙ With x p) ms ts
    back p ms ts l = (p.0, (l.0, l.1, l.2, (l.3.0, l.3.1, l.3.2, l.3.3, (p.1, refl, l.3.4))))

-- the same where nothing continues the first
pub both : {X Y : Type 0} {a : Telling X} {b : Telling Y} {A : X → Mentioning} {B : Y → Mentioning}
    {StopB : Y → Lexeme → Type 0}
    → IsTeller a A Anything → IsTeller b B StopB → IsTeller (a ⊗ b) (λ p. A p.0 ⊙ B p.1) (λ p. StopB p.1)
both first next = both_told first next (λ x y ms taken rest l stops. stops_at_all (taken ++ rest) (λ t. tt))

-- the first value, with what says nothing behind it, which doesn't continue it
pub kept_told : {X : Type 0} {a : Telling X} {b : Telling (Unit {0})} {A : X → Mentioning} {B : Mentioning}
    {StopA : X → Lexeme → Type 0} {StopB : Lexeme → Type 0}
    → IsTeller a A StopA → IsTeller b (λ u. B) (λ u. StopB) → Follows {Y = Unit {0}} StopA (λ x u. B) (λ u. StopB)
    → IsTeller (a ◁ b) (λ x. A x ⊙ B) (λ x. StopB)
kept_told {X} {a} {b} {A} {B} {StopA} {StopB} first next ends =
    told_as (λ x. A x ⊙ B)
    (λ x ms ts l. (
      l.1.0,
      l.1.1,
      l.1.2,
      (
        l.1.3.0,
        l.1.3.1,
        l.1.3.2,
        subst (λ (x : X). A x l.1.0 l.1.3.0) (sym l.1.3.4.1) l.1.3.3,
        l.1.3.4.2,
      ),
    ))
    (λ x ms ts l. (x, (l.0, l.1, l.2, (l.3.0, l.3.1, l.3.2, l.3.3, (tt, refl, l.3.4)))))
    (each_tells (λ x. b >>= λ u. give x) (λ x y ms ts. (u : Unit {0}) × (y ≡ x) × B ms ts) (λ x. StopB) first
    (λ x. made_tells (λ u. x) (λ x. StopB) (λ u t stop. stop) (λ u t stop. stop) next)
    (λ x y ms taken rest l stops. ends x tt ms taken rest l.2 stops))

-- the same where nothing continues the first
pub kept : {X : Type 0} {a : Telling X} {b : Telling (Unit {0})} {A : X → Mentioning} {B : Mentioning}
    {StopB : Lexeme → Type 0}
    → IsTeller a A Anything → IsTeller b (λ u. B) (λ u. StopB) → IsTeller (a ◁ b) (λ x. A x ⊙ B) (λ x. StopB)
kept first next = kept_told first next (λ x u ms taken rest l stops. stops_at_all (taken ++ rest) (λ t. tt))

-- What is spelled is made of what was read.
abbrev pub IsMade : {R Z : Type 0} → (R → Z) → (R → Mentioning) → Z → Mentioning
IsMade {R} make Spells z ms ts = (read : R) × (z ≡ make read) × Spells read ms ts

pub made_told : {R Z : Type 0} {a : Telling R} {Spells : R → Mentioning} (make : R → Z) (Stop : Lexeme → Type 0)
    → IsTeller a Spells (λ r. Stop) → IsTeller (made make a) (IsMade make Spells) (λ z. Stop)
made_told make Stop reads = made_tells make (λ z. Stop) (λ r t stop. stop) (λ r t stop. stop) reads

-- the same where what was read is all of what is made
pub made_whole : {R Z : Type 0} {a : Telling R} {Stop : Lexeme → Type 0} (make : R → Z) (parts : Z → R)
    (Spells : Z → Mentioning)
    → ((z : Z) → z ≡ make (parts z))
    → IsTeller a (λ r. Spells (make r)) (λ r. Stop) → IsTeller (made make a) Spells (λ z. Stop)
made_whole {Z = Z} {Stop = Stop} make parts Spells whole reads =
    told_as Spells (λ z ms ts l. subst (λ (z : Z). Spells z ms ts) (sym l.1) l.2)
    (λ z ms ts l. (parts z, whole z, subst (λ (z : Z). Spells z ms ts) (whole z) l))
    (made_told make Stop reads)

-- words and signs
pub word_tells : (text : List ℕ) → IsTeller (silently (keyword_at text))
    (λ (u : Unit {0}). silent (keyword text)) Anything
word_tells text = silent_tells (keyword_reads text)

pub sign_tells : (b : ℕ) → IsTeller (silently (punctuation_at b)) (λ (u : Unit {0}). silent (punctuation b)) Anything
sign_tells b = silent_tells (sign_reads b)

-- ---- languages in other words

pub first_as : {A B C : Mentioning} → ((ms : List Mention) (ts : List Lexeme) → A ms ts → B ms ts)
    → (ms : List Mention) (ts : List Lexeme) → (A ⊙ C) ms ts → (B ⊙ C) ms ts
first_as there ms ts l = (l.0, l.1, l.2, (l.3.0, l.3.1, l.3.2, there l.0 l.3.0 l.3.3, l.3.4))

pub then_as : {A B C : Mentioning} → ((ms : List Mention) (ts : List Lexeme) → B ms ts → C ms ts)
    → (ms : List Mention) (ts : List Lexeme) → (A ⊙ B) ms ts → (A ⊙ C) ms ts
then_as there ms ts l = (l.0, l.1, l.2, (l.3.0, l.3.1, l.3.2, l.3.3, there l.1 l.3.1 l.3.4))

-- what has no mentions, in one part and in two
pub joined : {A B : Language} {C : Mentioning} (ms : List Mention) (ts : List Lexeme)
    → (silent A ⊙ (silent B ⊙ C)) ms ts → (silent (A · B) ⊙ C) ms ts
joined ms ts l =
    let second = l.3.4 in (
      [],
      second.1,
      l.2 ∙ (ap (λ (first : List Mention). first ++ l.1) l.3.3.0
          ∙ (second.2 ∙ ap (λ (first : List Mention). first ++ second.1) second.3.3.0)),
      (
        l.3.0 ++ second.3.0,
        second.3.1,
        l.3.2 ∙ (ap (λ (vs : List Lexeme). l.3.0 ++ vs) second.3.2 ∙ sym (append_assoc l.3.0 second.3.0 second.3.1)),
        (refl, (l.3.0, second.3.0, refl, l.3.3.1, second.3.3.1)),
        second.3.4,
      ),
    )

pub parted : {A B : Language} {C : Mentioning} (ms : List Mention) (ts : List Lexeme)
    → (silent (A · B) ⊙ C) ms ts → (silent A ⊙ (silent B ⊙ C)) ms ts
parted ms ts l =
    let both = l.3.3.1 in (
      [],
      l.1,
      l.2 ∙ ap (λ (first : List Mention). first ++ l.1) l.3.3.0,
      (
        both.0,
        both.1 ++ l.3.1,
        l.3.2 ∙ (ap (λ (us : List Lexeme). us ++ l.3.1) both.2 ∙ append_assoc both.0 both.1 l.3.1),
        (refl, both.3),
        ([], l.1, refl, (both.1, l.3.1, refl, (refl, both.4), l.3.4)),
      ),
    )

-- three parts
pub assoc_there : {A B C : Mentioning} (ms : List Mention) (ts : List Lexeme) → ((A ⊙ B) ⊙ C) ms ts
    → (A ⊙ (B ⊙ C)) ms ts
assoc_there ms ts l =
    let first = l.3.3 in (
      first.0,
      first.1 ++ l.1,
      l.2 ∙ (ap (λ (before : List Mention). before ++ l.1) first.2 ∙ append_assoc first.0 first.1 l.1),
      (
        first.3.0,
        first.3.1 ++ l.3.1,
        l.3.2 ∙ (ap (λ (us : List Lexeme). us ++ l.3.1) first.3.2 ∙ append_assoc first.3.0 first.3.1 l.3.1),
        first.3.3,
        (first.1, l.1, refl, (first.3.1, l.3.1, refl, first.3.4, l.3.4)),
      ),
    )

pub assoc_back : {A B C : Mentioning} (ms : List Mention) (ts : List Lexeme) → (A ⊙ (B ⊙ C)) ms ts
    → ((A ⊙ B) ⊙ C) ms ts
assoc_back ms ts l =
    let second = l.3.4 in (
      l.0 ++ second.0,
      second.1,
      l.2 ∙ (ap (λ (behind : List Mention). l.0 ++ behind) second.2 ∙ sym (append_assoc l.0 second.0 second.1)),
      (
        l.3.0 ++ second.3.0,
        second.3.1,
        l.3.2 ∙ (ap (λ (vs : List Lexeme). l.3.0 ++ vs) second.3.2 ∙ sym (append_assoc l.3.0 second.3.0 second.3.1)),
        (l.0, second.0, refl, (l.3.0, second.3.0, refl, l.3.3, second.3.3)),
        second.3.4,
      ),
    )

-- what stands behind goes to the last part, and comes back from there
pub pushed : {A B C D : Mentioning} → ((ms : List Mention) (ts : List Lexeme) → (B ⊙ C) ms ts → D ms ts)
    → (ms : List Mention) (ts : List Lexeme) → ((A ⊙ B) ⊙ C) ms ts → (A ⊙ D) ms ts
pushed there ms ts l = then_as there ms ts (assoc_there ms ts l)

pub pulled : {A B C D : Mentioning} → ((ms : List Mention) (ts : List Lexeme) → D ms ts → (B ⊙ C) ms ts)
    → (ms : List Mention) (ts : List Lexeme) → (A ⊙ D) ms ts → ((A ⊙ B) ⊙ C) ms ts
pulled back ms ts l = assoc_back ms ts (then_as back ms ts l)

-- two parts with no mentions
pub silent_joined : {A B : Language} (ms : List Mention) (ts : List Lexeme) → (silent A ⊙ silent B) ms ts
    → silent (A · B) ms ts
silent_joined ms ts l = (
  l.2 ∙ (ap (λ (before : List Mention). before ++ l.1) l.3.3.0 ∙ l.3.4.0),
  (l.3.0, l.3.1, l.3.2, l.3.3.1, l.3.4.1),
)

pub silent_parted : {A B : Language} (ms : List Mention) (ts : List Lexeme) → silent (A · B) ms ts
    → (silent A ⊙ silent B) ms ts
silent_parted ms ts l = ([], [], l.0, (l.1.0, l.1.1, l.1.2, (refl, l.1.3), (refl, l.1.4)))
