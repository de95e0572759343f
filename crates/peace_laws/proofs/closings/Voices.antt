-- The voices of members: who was heard, how many there are, and when all are in.
use Rattle.std.proofs.Common.{◌≡◌, ◌≤◌, ◌<◌, ◌⊎◌, ◌∙◌, ◌++◌, inl, inr, ℕ, zero, suc, ◌+◌, ◌*◌, ◌/◌, Bool, true, false}
use Rattle.std.proofs.Common.{List, [], ◌∷◌, refl, sym}
use Rattle.std.proofs.Common.{ap, subst, length, length-append, arith, if◌then◌else◌, nat_le}
use Rattle.std.proofs.lemmas.Bool.{and_from, and_parts, cases_lt, false≢true, or_left, or_right}
use Rattle.std.proofs.lemmas.Bool.Decides.{nat_tests}
use Rattle.std.proofs.lemmas.List.Folds.{list_all-append, list_any-append}
use Rattle.std.specs.List.{list_all}
use Rattle.std.specs.Prelude.{◌&&◌, ◌||◌, filter, nat_eq, not}
use Rattle.api_views.specs.Members.{is_member}
use Rattle.frag_map.specs.Layout.{members}
use Rattle.frag_map.specs.Replicas.{first_start}
use Rattle.frag_map.specs.Shape.{IsShape}
use Rattle.gcp_master.specs.declared.voices.Voice.{Voice}
use Rattle.gcp_master.specs.State.{MasterState, all_in, counts}
use Rattle.gcp_master.specs.Voices.{has_all, is_heard, is_in, is_of, same_member, same_voice, voices_of}
use Rattle.run_theory.specs.Counts.{one_if}
use Rattle.run_theory.specs.Lists.{Each, IsIn}
use Rattle.sig_core.specs.declared.member.Member.{Member}
use Rattle.sig_core.specs.declared.view.View.{View}
use Rattle.world_core.specs.Hosts.{member_at}
use Rattle.world_core.specs.Start.{Start, made}
use Rattle.host_laws.proofs.hosts.Sums.{one_most}
use Rattle.host_laws.proofs.coordinator.Sends.{eqb-self}
use Rattle.calm_laws.specs.Alike.{first}
use Rattle.calm_laws.proofs.lives.FirstMembers.{member_first, member_known}
use Rattle.peace_laws.specs.Closing.{host_in}
use Rattle.peace_laws.specs.UnderWay.{heard_count, voice_of}
use Rattle.peace_laws.proofs.closings.OrderLists.{in_members}

-- who was heard still is, and a new voice is heard
pub heard_on : (voices : List Voice) (more voice : Voice) → is_heard voices voice ≡ true
    → is_heard (voices ++ more ∷ []) voice ≡ true
heard_on voices more voice is =
    list_any-append (same_voice voice) voices (more ∷ []) ∙ or_left (is_heard voices voice) _ is

pub heard_now : (voices : List Voice) (voice : Voice) → is_heard (voices ++ voice ∷ []) voice ≡ true
heard_now voices voice =
    list_any-append (same_voice voice) voices (voice ∷ [])
    ∙ or_right (is_heard voices voice) _
    (or_left (same_voice voice voice) false
    (and_from (same_member voice.member voice.member) _
    (and_from _ _ (eqb-self voice.member.node) (eqb-self voice.member.start)) (eqb-self voice.from.0)))

-- how many were heard
one_more : (a b : Bool) → (a ≡ true → b ≡ true) → one_if a ≤ one_if b
one_more true b more = ap_le (more refl)
  where
    ap_le : b ≡ true → 1 ≤ one_if b
    ap_le is = omega (arith, ap one_if is)
one_more false b more = omega arith

module _ (voices : List Voice) (more : Voice) where
  count_on : (rows : Bool) (n : ℕ) → heard_count voices rows n ≤ heard_count (voices ++ more ∷ []) rows n
  count_on rows zero = omega arith
  count_on rows (suc n) =
      omega (
        arith,
        count_on rows n,
        one_more (is_heard voices (voice_of n rows)) (is_heard (voices ++ more ∷ []) (voice_of n rows))
            (heard_on voices more (voice_of n rows)),
      )

count_more : (voices : List Voice) (place : ℕ) (rows : Bool) → is_heard voices (voice_of place rows) ≡ false
    → (n : ℕ) → place < n
    → suc (heard_count voices rows n) ≤ heard_count (voices ++ voice_of place rows ∷ []) rows n
count_more voices place rows unheard zero low = absurd (omega (arith, low))
count_more voices place rows unheard (suc n) low = go (count_more voices place rows unheard n) (cases_lt place n)
  where
    now : List Voice
    now = voices ++ voice_of place rows ∷ []

    go : (place < n → suc (heard_count voices rows n) ≤ heard_count now rows n) → (place < n) ⊎ (n ≤ place)
        → suc (one_if (is_heard voices (voice_of n rows)) + heard_count voices rows n)
        ≤ one_if (is_heard now (voice_of n rows)) + heard_count now rows n
    go before (inl below) =
        omega (
          arith,
          before below,
          one_more (is_heard voices (voice_of n rows)) (is_heard now (voice_of n rows))
              (heard_on voices (voice_of place rows) (voice_of n rows)),
        )
    go before (inr last) =
        let same : place ≡ n = omega (arith, low, last) in
        omega (
          arith,
          ap (λ (k : ℕ). one_if (is_heard voices (voice_of k rows))) (sym same),
          ap one_if unheard,
          ap (λ (k : ℕ). one_if (is_heard now (voice_of k rows))) (sym same),
          ap one_if (heard_now voices (voice_of place rows)),
          count_on voices (voice_of place rows) rows n,
        )

count_few : (voices : List Voice) (rows : Bool) (n : ℕ) → heard_count voices rows n ≤ n
count_few voices rows zero = omega arith
count_few voices rows (suc n) =
    omega (arith, count_few voices rows n, one_most (is_heard voices (voice_of n rows)))

count_fewer : (voices : List Voice) (place : ℕ) (rows : Bool) → is_heard voices (voice_of place rows) ≡ false
    → (n : ℕ) → place < n → suc (heard_count voices rows n) ≤ n
count_fewer voices place rows unheard n low =
    omega (
      arith,
      count_more voices place rows unheard n low,
      count_few (voices ++ voice_of place rows ∷ []) rows n,
    )

-- Voices of different blocks of members of such a number: there is room for one that isn't heard, and they stay so.
abbrev pub AreFew : ℕ → List Voice → Type 0
AreFew n voices = length voices ≤ heard_count voices false n + heard_count voices true n

pub few_on : (n : ℕ) (voices : List Voice) (place : ℕ) (rows : Bool) → place < n → AreFew n voices
    → is_heard voices (voice_of place rows) ≡ false → AreFew n (voices ++ voice_of place rows ∷ [])
few_on n voices place false low few unheard =
    omega (
      arith,
      few,
      length-append voices (voice_of place false ∷ []),
      count_more voices place false unheard n low,
      count_on voices (voice_of place false) true n,
    )
few_on n voices place true low few unheard =
    omega (
      arith,
      few,
      length-append voices (voice_of place true ∷ []),
      count_more voices place true unheard n low,
      count_on voices (voice_of place true) false n,
    )

few_room : (n : ℕ) (voices : List Voice) (place : ℕ) (rows : Bool) → n ≤ 8 → place < n → AreFew n voices
    → is_heard voices (voice_of place rows) ≡ false → length voices < 16
few_room n voices place false eight low few unheard =
    omega (arith, few, eight, count_fewer voices place false unheard n low, count_few voices true n)
few_room n voices place true eight low few unheard =
    omega (arith, few, eight, count_fewer voices place true unheard n low, count_few voices false n)

-- the voice of a signal of a member
pub member_in : (start : Start) (place : ℕ) (rows : Bool) → place < start.shape.nodes
    → member_at (made start) (host_in place rows) ≡ first_start (place + 1)
member_in start place false low =
    let at : (place * 3 + 1) / 3 ≡ place = omega arith in
    member_first start (place * 3 + 1) (omega (arith, low)) ∙ ap (λ (i : ℕ). first_start (i + 1)) at
member_in start place true low =
    let at : (place * 3 + 2) / 3 ≡ place = omega arith in
    member_first start (place * 3 + 2) (omega (arith, low)) ∙ ap (λ (i : ℕ). first_start (i + 1)) at

in_first : (start : Start) (place : ℕ) → place < start.shape.nodes
    → is_in (first start) (first_start (place + 1)) ≡ true
unfolding is_member
in_first start place low =
    ap (is_in (first start)) (sym (member_in start place false low))
    ∙ member_known start (place * 3 + 1) (omega (arith, low))

-- where such a one doesn't count it was heard before
pub counts_or_heard : (start : Start) (s : MasterState) (place : ℕ) (rows : Bool) → IsShape start.shape
    → s.view ≡ first start → place < start.shape.nodes → AreFew start.shape.nodes s.voices
    → counts s (voice_of place rows) ≡ false → is_heard s.voices (voice_of place rows) ≡ true
unfolding counts
counts_or_heard start s place rows shape view low few none = go (is_heard s.voices (voice_of place rows)) refl
  where
    voice : Voice
    voice = voice_of place rows

    there : is_in s.view (first_start (place + 1)) ≡ true
    there = ap (λ (v : View). is_in v (first_start (place + 1))) view ∙ in_first start place low

    go : (b : Bool) → is_heard s.voices (voice_of place rows) ≡ b → is_heard s.voices (voice_of place rows) ≡ true
    go true is = is
    go false unheard =
        let room : length s.voices < 16 =
        few_room start.shape.nodes s.voices place rows shape.nodes_few low few unheard in
        absurd
        (false≢true
        (sym none
        ∙ and_from (is_in s.view (first_start (place + 1))) _ there
        (and_from (not (is_heard s.voices (voice_of place rows))) _ (ap not unheard)
        (grind (arith, nat_tests, room)))))

-- and where it counts it wasn't
pub counts_unheard : (s : MasterState) (voice : Voice) → counts s voice ≡ true → is_heard s.voices voice ≡ false
unfolding counts
counts_unheard s voice is =
    unheard (is_heard s.voices voice)
    (and_parts (not (is_heard s.voices voice)) _ (and_parts (is_in s.view voice.member) _ is).1).0
  where
    unheard : (b : Bool) → not b ≡ true → b ≡ false
    unheard true is = absurd (false≢true is)
    unheard false is = refl

-- of a member there are as many as its blocks that were heard
split_one : (m a b ha hb : Bool) (f : ℕ) → (a ≡ true → b ≡ true → ⊥) → one_if ha + one_if hb ≤ f
    → one_if ((m && a) || ha) + one_if ((m && b) || hb) ≤ (if m then suc f else f)
split_one false a b ha hb f apart before = before
split_one true true true ha hb f apart before = absurd (apart refl refl)
split_one true true false ha hb f apart before = omega (arith, before, one_most ha)
split_one true false true ha hb f apart before = omega (arith, before, one_most hb)
split_one true false false ha hb f apart before = omega (arith, before)

filter_length : (m : Bool) (v : Voice) (f : List Voice)
    → length (if m then v ∷ f else f) ≡ (if m then suc (length f) else length f)
filter_length true v f = refl
filter_length false v f = refl

apart_hosts : (place from : ℕ) → nat_eq (host_in place false) from ≡ true → nat_eq (host_in place true) from ≡ true → ⊥
apart_hosts place from one other = grind (arith, nat_tests, one, other)

voices_many : (place : ℕ) (voices : List Voice)
    → one_if (is_heard voices (voice_of place false)) + one_if (is_heard voices (voice_of place true))
    ≤ voices_of voices (first_start (place + 1))
voices_many place [] = omega arith
voices_many place (v ∷ voices) =
    subst (λ n.
    one_if (is_heard (v ∷ voices) (voice_of place false)) + one_if (is_heard (v ∷ voices) (voice_of place true)) ≤ n)
    (sym (filter_length (is_of (first_start (place + 1)) v) v (filter (is_of (first_start (place + 1))) voices)))
    (split_one (is_of (first_start (place + 1)) v) (nat_eq (host_in place false) v.from.0)
    (nat_eq (host_in place true) v.from.0) (is_heard voices (voice_of place false))
    (is_heard voices (voice_of place true)) (voices_of voices (first_start (place + 1)))
    (apart_hosts place v.from.0) (voices_many place voices))

pub one_heard : (place : ℕ) (voices : List Voice) (rows : Bool) → is_heard voices (voice_of place rows) ≡ true
    → 1 ≤ voices_of voices (first_start (place + 1))
one_heard place voices false heard = omega (arith, voices_many place voices, ap one_if heard)
one_heard place voices true heard = omega (arith, voices_many place voices, ap one_if heard)

pub both_heard : (place : ℕ) (voices : List Voice) → is_heard voices (voice_of place false) ≡ true
    → is_heard voices (voice_of place true) ≡ true → 2 ≤ voices_of voices (first_start (place + 1))
both_heard place voices epochs rows = omega (arith, voices_many place voices, ap one_if epochs, ap one_if rows)

-- all of a list
all_of : {A : Type 0} (p : A → Bool) (xs : List A) → list_all p xs ≡ true → (x : A) → IsIn x xs → p x ≡ true
all_of p [] is x none = absurd none
all_of p (y ∷ xs) is x (inl same) = ap p same ∙ (and_parts (p y) (list_all p xs) is).0
all_of p (y ∷ xs) is x (inr later) = all_of p xs (and_parts (p y) (list_all p xs) is).1 x later

all_members : (p : Member → Bool) (n : ℕ) → ((place : ℕ) → place < n → p (first_start (place + 1)) ≡ true)
    → list_all p (members n) ≡ true
all_members p zero is = refl
all_members p (suc n) is =
    list_all-append p (members n) (first_start (n + 1) ∷ [])
    ∙ and_from (list_all p (members n)) _ (all_members p n (λ place low. is place (omega (arith, low))))
    (and_from (p (first_start (n + 1))) true (is n (omega arith)) refl)

module _ (start : Start) (s : MasterState) (view : s.view ≡ first start) (blocks : ℕ) where
  in_is : all_in blocks s ≡ (has_all blocks s.voices (members start.shape.nodes) && true)
  unfolding all_in
  in_is =
      ap (λ (v : View). has_all blocks s.voices v.full && has_all blocks s.voices v.starting) view

  -- all are in where each member was heard with so many blocks,
  pub all_are_in : ((place : ℕ) → place < start.shape.nodes → blocks ≤ voices_of s.voices (first_start (place + 1)))
      → all_in blocks s ≡ true
  all_are_in each =
      in_is
      ∙ and_from (has_all blocks s.voices (members start.shape.nodes)) true
      (all_members (λ member. nat_le blocks (voices_of s.voices member)) start.shape.nodes
      (λ place low. le_is blocks (voices_of s.voices (first_start (place + 1))) (each place low))) refl
    where
      le_is : (m n : ℕ) → m ≤ n → nat_le m n ≡ true
      le_is m n le = grind (arith, nat_tests, le)

  -- and where all are, each member was
  pub each_is_in : all_in blocks s ≡ true → (place : ℕ) → place < start.shape.nodes
      → blocks ≤ voices_of s.voices (first_start (place + 1))
  each_is_in all place low =
      let at : nat_le blocks (voices_of s.voices (first_start (place + 1))) ≡ true =
      all_of (λ member. nat_le blocks (voices_of s.voices member)) (members start.shape.nodes)
      (and_parts (has_all blocks s.voices (members start.shape.nodes)) true (sym in_is ∙ all)).0
      (first_start (place + 1)) (in_members start.shape.nodes place low) in
      grind (arith, nat_tests, at)

-- a voice of a member, of which something is true as of all
pub record FoundVoice (P : Voice → Type 0) (member : Member) : Type 0 where
  pub voice : Voice
  pub so : P voice
  pub own : is_of member voice ≡ true

pub voice_found : (P : Voice → Type 0) (member : Member) (voices : List Voice) → Each P voices
    → 1 ≤ voices_of voices member → FoundVoice P member
voice_found P member [] all some = absurd (omega (arith, some))
voice_found P member (v ∷ voices) all some = go (voice_found P member voices all.1) (is_of member v) refl some
  where
    go : (1 ≤ voices_of voices member → FoundVoice P member) → (b : Bool) → is_of member v ≡ b
        → 1 ≤ length (if b then v ∷ filter (is_of member) voices else filter (is_of member) voices)
        → FoundVoice P member
    go later true own some = record { voice = v; so = all.0; own = own }
    go later false other some = later some
