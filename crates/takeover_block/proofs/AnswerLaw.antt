-- The client is told of a transaction when all replicas have answered.
use Rattle.std.proofs.Common.{◌≡◌, ◌∙◌, ◌≤◌, ◌+◌, ◌-◌, ◌==◌, ◌&&◌, ℕ, Bool, true, false, List, [], ◌∷◌, length, nat_lt}
use Rattle.std.proofs.Common.{arith, refl, ap, sym, subst}
use Rattle.std.proofs.lemmas.Bool.{eqb-true}
use Rattle.std.proofs.lemmas.Bool.Decides.{nat_tests}
use Rattle.std.specs.Prelude.{Option, None, Some, remove, slice_get}
use Rattle.run_theory.specs.Lists.{Each}
use Rattle.sig_core.specs.declared.member.TxId.{TxId}
use Rattle.sig_core.specs.declared.outs.Outgoing.{Outgoing}
use Rattle.sig_core.specs.declared.signal.Body.{Body}
use Rattle.sig_core.specs.declared.signal.Body.TheVariants.{Client, Chain, Takeover}
use Rattle.sig_core.specs.declared.signal.Signal.{Signal}
use Rattle.sig_core.specs.declared.signal.chain.ChainSignal.TheVariants.{Committed, Aborted}
use Rattle.sig_core.specs.declared.signal.takeover.TakeoverSignal.TheVariants.{TakeoverOrd, LqhTransConf, LqhTransEnd}
use Rattle.sig_core.specs.Same.{same_tx}
use Rattle.sig_core.specs.Step.{Step, sends_only, stay}
use Rattle.sig_core.proofs.Keys.{same_tx-self}
use Rattle.sig_core.proofs.TxLemmas.{same_tx-is}
use Rattle.frag_map.specs.Layout.{Layout}
use Rattle.takeover_block.specs.declared.gathered.Gathered.{Gathered}
use Rattle.takeover_block.specs.declared.stage.Stage.{Stage}
use Rattle.takeover_block.specs.declared.stage.Stage.TheVariants.{Resting, Gathering, Committing, Completing, Aborting}
use Rattle.takeover_block.specs.Gather.{asking, member_count, order_if}
use Rattle.takeover_block.specs.Gathered.{first_of, noted, told_epoch}
use Rattle.takeover_block.specs.Keys.{with_key}
use Rattle.takeover_block.specs.Laws.{AllHaveAnswered, EachSent, Followed, TellsWhenAllHaveAnswered}
use Rattle.takeover_block.specs.Laws.{aborted_if, committed_if, follow, key_if, unfollowed}
use Rattle.takeover_block.specs.Rule as rule
use Rattle.takeover_block.specs.Sends.{front_sends, told_aborted}
use Rattle.takeover_block.specs.State.{TakeoverState, at_stage, resting, with_gathered}
use Rattle.takeover_block.specs.Takeover.{takeover_row, takeover_table}
use Rattle.takeover_block.proofs.EachTakeover.{is_gathering, is_heard, takeover_each}
use Rattle.takeover_block.proofs.LawLemmas.{First, each_first, first_found, first_is, first_with}
use Rattle.takeover_block.proofs.LawLemmas.{is_some_of, least_less, least_of, none_less}
use Rattle.takeover_block.proofs.NotedEach.{noted_apart, noted_distinct, noted_here, noted_map}
use Rattle.takeover_block.proofs.NotedLemmas.{Apart, Distinct, other}
use Rattle.takeover_block.proofs.SentEach.{asks_each, is_plain, stage_each}
use Rattle.takeover_block.proofs.SoundLemmas.{IsHere, not_here}

with_first_key : (key : List ℕ) → with_key [] key ≡ key ∷ []
unfolding with_key
with_first_key key = refl

-- the keys of the transaction are those that were told
abbrev KeysAre : TxId → List (List ℕ) → List Gathered → Type 0
KeysAre tx keys gs = Each (λ g. g.tx ≡ tx → g.keys ≡ keys) gs

-- how far its stage has come, where it is the first
abbrev FitsFollowed : TxId → Layout → Followed → List Gathered → Stage → Type 0
FitsFollowed tx layout f gs (Gathering n) = (f.awaited ≡ n) × (1 ≤ n) × (Apart tx gs → f.keys ≡ [])
FitsFollowed tx layout f gs Resting = f.awaited ≡ 0
FitsFollowed tx layout f gs (Committing e n) =
    (f.awaited ≡ 0) × First (λ g. g.tx ≡ tx → length g.keys ≤ n + f.committed) gs
FitsFollowed tx layout f gs (Completing e n) =
    (f.awaited ≡ 0) × First (λ g. g.tx ≡ tx → length g.keys ≤ f.committed) gs
FitsFollowed tx layout f gs (Aborting n) =
    (f.awaited ≡ 0) × First (λ g. g.tx ≡ tx → rule.replica_count layout g.keys ≤ n + f.aborted) gs

record IsFollowed (tx : TxId) (s : TakeoverState) (f : Followed) : Type 0 where
  distinct : Distinct s.gathered
  keys : KeysAre tx f.keys s.gathered
  fits : FitsFollowed tx s.layout f s.gathered s.stage

abbrev AreAnswered : TxId → Layout → Followed → List Outgoing → Type 0
AreAnswered tx layout f sends = Each (λ send. AllHaveAnswered tx layout f send.body) sends

record StepIsFollowed (tx : TxId) (before : Layout) (f : Followed) (step : Step TakeoverState) : Type 0 where
  same : step.state.layout ≡ before
  state : IsFollowed tx step.state f
  sends : AreAnswered tx before f step.effects.sends

first_map : (P Q : Gathered → Type 0) (gs : List Gathered) → ((g : Gathered) → P g → Q g) → First P gs → First Q gs
first_map P Q [] f first = tt
first_map P Q (g ∷ gs) f first = f g first

plainly : (tx : TxId) (layout : Layout) (f : Followed) (o : Outgoing) → is_plain o.body ≡ true
    → AllHaveAnswered tx layout f o.body
plainly tx layout f o plain = by o.body plain
  where
    by : (body : Body) → is_plain body ≡ true → AllHaveAnswered tx layout f body
    by (Client signal) plain = absurd cc
    by _ plain = tt

-- nobody has still to end
none_left : (tx : TxId) (layout : Layout) (f : Followed) (gs : List Gathered) (stage : Stage)
    → is_gathering stage ≡ false → FitsFollowed tx layout f gs stage → f.awaited ≡ 0
none_left tx layout f gs (Gathering n) idle fits = absurd cc
none_left tx layout f gs Resting idle fits = fits
none_left tx layout f gs (Committing e n) idle fits = fits.0
none_left tx layout f gs (Completing e n) idle fits = fits.0
none_left tx layout f gs (Aborting n) idle fits = fits.0

-- an end that comes when all have ended tells nothing
ended_still : (tx : TxId) (layout : Layout) (f : Followed) (gs : List Gathered) (stage : Stage)
    → is_gathering stage ≡ false → FitsFollowed tx layout f gs stage
    → FitsFollowed tx layout
    (record { awaited = f.awaited - 1; keys = f.keys; committed = f.committed; aborted = f.aborted }) gs stage
ended_still tx layout f gs (Gathering n) idle fits = absurd cc
ended_still tx layout f gs Resting idle fits = ap (λ a. a - 1) fits
ended_still tx layout f gs (Committing e n) idle fits = (ap (λ a. a - 1) fits.0, fits.1)
ended_still tx layout f gs (Completing e n) idle fits = (ap (λ a. a - 1) fits.0, fits.1)
ended_still tx layout f gs (Aborting n) idle fits = (ap (λ a. a - 1) fits.0, fits.1)

more_left : (a n c : ℕ) → a ≤ n + c → a ≤ n + (c + 1)
more_left a n c h = omega (arith, h)

more_done : (a c : ℕ) → a ≤ c → a ≤ c + 1
more_done a c h = omega (arith, h)

-- further answers take nothing away
committed_still : (tx : TxId) (layout : Layout) (f : Followed) (gs : List Gathered) (stage : Stage) (own : Bool)
    → FitsFollowed tx layout f gs stage → FitsFollowed tx layout (committed_if f own) gs stage
committed_still tx layout f gs stage false fits = fits
committed_still tx layout f gs (Gathering n) true fits = (fits.0, fits.1, fits.2)
committed_still tx layout f gs Resting true fits = fits
committed_still tx layout f gs (Committing e n) true fits = (
  fits.0,
  first_map (λ g. g.tx ≡ tx → length g.keys ≤ n + f.committed)
      (λ g. g.tx ≡ tx → length g.keys ≤ n + (f.committed + 1)) gs
      (λ g h same. more_left (length g.keys) n f.committed (h same)) fits.1,
)
committed_still tx layout f gs (Completing e n) true fits = (
  fits.0,
  first_map (λ g. g.tx ≡ tx → length g.keys ≤ f.committed)
      (λ g. g.tx ≡ tx → length g.keys ≤ f.committed + 1) gs
      (λ g h same. more_done (length g.keys) f.committed (h same)) fits.1,
)
committed_still tx layout f gs (Aborting n) true fits = (fits.0, fits.1)

aborted_still : (tx : TxId) (layout : Layout) (f : Followed) (gs : List Gathered) (stage : Stage) (own : Bool)
    → FitsFollowed tx layout f gs stage → FitsFollowed tx layout (aborted_if f own) gs stage
aborted_still tx layout f gs stage false fits = fits
aborted_still tx layout f gs (Gathering n) true fits = (fits.0, fits.1, fits.2)
aborted_still tx layout f gs Resting true fits = fits
aborted_still tx layout f gs (Committing e n) true fits = (fits.0, fits.1)
aborted_still tx layout f gs (Completing e n) true fits = (fits.0, fits.1)
aborted_still tx layout f gs (Aborting n) true fits = (
  fits.0,
  first_map (λ g. g.tx ≡ tx → rule.replica_count layout g.keys ≤ n + f.aborted)
      (λ g. g.tx ≡ tx → rule.replica_count layout g.keys ≤ n + (f.aborted + 1)) gs
      (λ g h same. more_left (rule.replica_count layout g.keys) n f.aborted (h same)) fits.1,
)

-- answers tell no keys
committed_keys : (f : Followed) (own : Bool) → f.keys ≡ (committed_if f own).keys
committed_keys f true = refl
committed_keys f false = refl

aborted_keys : (f : Followed) (own : Bool) → f.keys ≡ (aborted_if f own).keys
aborted_keys f true = refl
aborted_keys f false = refl

still_followed : (tx : TxId) (members : ℕ) (s : TakeoverState) (f : Followed) (body : Body) → is_heard body ≡ false
    → IsFollowed tx s f → IsFollowed tx s (follow tx members f body)
still_followed tx members s f (Takeover TakeoverOrd) heard is = absurd cc
still_followed tx members s f (Takeover (LqhTransConf other key state epoch)) heard is = absurd cc
still_followed tx members s f (Takeover LqhTransEnd) heard is = absurd cc
still_followed tx members s f (Chain (Committed other key)) heard is = record {
  distinct = is.distinct;
  keys = subst (λ keys. KeysAre tx keys s.gathered) (committed_keys f (same_tx other tx)) is.keys;
  fits = committed_still tx s.layout f s.gathered s.stage (same_tx other tx) is.fits;
}
still_followed tx members s f (Chain (Aborted other key)) heard is = record {
  distinct = is.distinct;
  keys = subst (λ keys. KeysAre tx keys s.gathered) (aborted_keys f (same_tx other tx)) is.keys;
  fits = aborted_still tx s.layout f s.gathered s.stage (same_tx other tx) is.fits;
}
still_followed tx members s f _ heard is = is

-- a transaction that is ruled on has had no answer that counts, and needs none yet
ruled : (tx : TxId) (s : TakeoverState) (f : Followed) → f.awaited ≡ 0 → Distinct s.gathered
    → KeysAre tx f.keys s.gathered → StepIsFollowed tx s.layout f (rule.ruling s)
unfolding rule.ruling rule.entering rule.way_of front_sends
ruled tx s f none distinct keys = by (slice_get s.gathered 0) refl
  where
    told : (g : Gathered) → slice_get s.gathered 0 ≡ Some g → (epoch : Option ℕ)
        → StepIsFollowed tx s.layout f (rule.entering s g (rule.way_by s.layout g.keys epoch))
    told g there (Some e) = record {
      same = refl;
      state = record {
        distinct = distinct;
        keys = keys;
        fits = (
          none,
          first_with (λ x. x.tx ≡ tx → length x.keys ≤ length g.keys + f.committed) s.gathered g there
              (λ same. omega arith),
        );
      };
      sends = stage_each (λ o. AllHaveAnswered tx s.layout f o.body) (plainly tx s.layout f) s.node s.layout
          (rule.way_by s.layout g.keys (Some e)) g 0 tt;
    }
    told g there None = record {
      same = refl;
      state = record {
        distinct = distinct;
        keys = keys;
        fits = (
          none,
          first_with
              (λ x. x.tx ≡ tx → rule.replica_count s.layout x.keys ≤ rule.replica_count s.layout g.keys + f.aborted)
              s.gathered g there (λ same. omega arith),
        );
      };
      sends = stage_each (λ o. AllHaveAnswered tx s.layout f o.body) (plainly tx s.layout f) s.node s.layout
          (rule.way_by s.layout g.keys None) g 0 tt;
    }

    by : (o : Option Gathered) → slice_get s.gathered 0 ≡ o → StepIsFollowed tx s.layout f (rule.ruling_by s o)
    by None there = record {
      same = refl;
      state = record { distinct = distinct; keys = keys; fits = none };
      sends = (tt, (tt, tt));
    }
    by (Some g) there = told g there g.epoch

distinct_without : (gs : List Gathered) → Distinct gs → Distinct (remove gs 0)
distinct_without [] d = d
distinct_without (g ∷ gs) d = d.1

keys_without : (tx : TxId) (keys : List (List ℕ)) (gs : List Gathered) → KeysAre tx keys gs
    → KeysAre tx keys (remove gs 0)
keys_without tx keys [] k = k
keys_without tx keys (g ∷ gs) k = k.1

finished : (tx : TxId) (s : TakeoverState) (f : Followed) → f.awaited ≡ 0 → Distinct s.gathered
    → KeysAre tx f.keys s.gathered → StepIsFollowed tx s.layout f (rule.finishing s)
unfolding rule.finishing
finished tx s f none distinct keys =
    ruled tx (with_gathered s (remove s.gathered 0)) f none (distinct_without s.gathered distinct)
    (keys_without tx f.keys s.gathered keys)

abbrev followed_at : TxId → TakeoverState → Followed → Body → Followed
followed_at tx s f body = follow tx (member_count s.layout.view) f body

own_is : (tx other : TxId) → other ≡ tx → same_tx other tx ≡ true
own_is tx other same = ap (λ t. same_tx t tx) same ∙ same_tx-self tx

count_down : (a n c : ℕ) → nat_lt 1 n ≡ true → a ≤ n + c → a ≤ (n - 1) + (c + 1)
count_down a n c more h = grind (arith, nat_tests, h)

count_out : (a n c : ℕ) → nat_lt 1 n ≡ false → a ≤ n + c → a ≤ c + 1
count_out a n c last h = grind (arith, nat_tests, h)

module _ (tx : TxId) (s : TakeoverState) (f : Followed) (is : IsFollowed tx s f) where
  fits_at : (stage : Stage) → s.stage ≡ stage → FitsFollowed tx s.layout f s.gathered stage
  fits_at stage at = subst (FitsFollowed tx s.layout f s.gathered) at is.fits

  answered : Outgoing → Type 0
  answered o = AllHaveAnswered tx s.layout f o.body

  -- what goes to the client when a transaction completes
  front_answered : (stage : Stage) (g : Gathered) → slice_get s.gathered 0 ≡ Some g → rule.is_at_work stage ≡ true
      → FitsFollowed tx s.layout f s.gathered stage → AreAnswered tx s.layout f (front_sends g.tx stage)
  unfolding front_sends
  front_answered (Completing e n) g there work fits = (
    (λ same.
        let keys : g.keys ≡ f.keys = each_first (λ g. g.tx ≡ tx → g.keys ≡ f.keys) s.gathered g there is.keys same in
        subst (λ keys. length keys ≤ f.committed) keys
        (first_is (λ g. g.tx ≡ tx → length g.keys ≤ f.committed) s.gathered g there fits.1 same)),
    tt,
  )
  front_answered (Committing e n) g there work fits = tt
  front_answered (Aborting n) g there work fits = tt
  front_answered Resting g there work fits = absurd cc
  front_answered (Gathering n) g there work fits = absurd cc

module _ (tx : TxId) (s : TakeoverState) (f : Followed) (is : IsFollowed tx s f) where
  ordered : (none : Bool) → (member_count s.layout.view == 0) ≡ none
      → StepIsFollowed tx s.layout (followed_at tx s f (Takeover TakeoverOrd))
      (order_if s (member_count s.layout.view) none)
  ordered true none =
      ruled tx (asking s (member_count s.layout.view) 0) (followed_at tx s f (Takeover TakeoverOrd))
      (eqb-true (member_count s.layout.view) 0 none) tt tt
  ordered false some =
      let least : 1 ≤ member_count s.layout.view = least_of (member_count s.layout.view) some in
      record {
        same = refl;
        state = record { distinct = tt; keys = tt; fits = (refl, least, (λ apart. refl)) };
        sends = asks_each (λ o. AllHaveAnswered tx s.layout (followed_at tx s f (Takeover TakeoverOrd)) o.body)
            (plainly tx s.layout (followed_at tx s f (Takeover TakeoverOrd))) s.node s.layout.view 0;
      }

  untold : (key : List ℕ) (own : Bool) → is_gathering s.stage ≡ false
      → StepIsFollowed tx s.layout (key_if f key (nat_lt 0 f.awaited && own)) (stay s)
  untold key own idle =
      subst (λ n. StepIsFollowed tx s.layout (key_if f key (nat_lt 0 n && own)) (stay s))
      (sym (none_left tx s.layout f s.gathered s.stage idle is.fits))
      (record { same = refl; state = is; sends = tt })

  told : (u : TxId) (key : List ℕ) (epoch : Option ℕ) (n : ℕ) → s.stage ≡ Gathering n
      → (own : Bool) → same_tx u tx ≡ own
      → StepIsFollowed tx s.layout (key_if f key (true && own)) (stay (with_gathered s (noted s.gathered u key epoch)))
  told u key epoch n at true own =
      let fits = fits_at tx s f is (Gathering n) at in
      let same : u ≡ tx = same_tx-is u tx own in
      let now = noted s.gathered u key epoch in
      let keys : KeysAre tx (with_key f.keys key) now =
      noted_map u key epoch s.gathered (λ g. g.tx ≡ tx → g.keys ≡ f.keys)
      (λ g. g.tx ≡ tx → g.keys ≡ with_key f.keys key) is.distinct is.keys
      (λ g apart had mine. absurd (apart (mine ∙ sym same)))
      (λ apart mine. sym (ap (λ ks. with_key ks key) (fits.2 (subst (λ t. Apart t s.gathered) same apart))
      ∙ with_first_key key))
      (λ g mine had own. ap (λ ks. with_key ks key) (had own)) in
      let after : FitsFollowed tx s.layout (key_if f key true) now (Gathering n) = (
        fits.0,
        fits.1,
        (λ apart. absurd (not_here tx now apart (subst (λ t. IsHere now t) same (noted_here u key epoch s.gathered)))),
      ) in
      record {
        same = refl;
        state = record {
          distinct = noted_distinct u key epoch s.gathered is.distinct;
          keys = keys;
          fits = subst (FitsFollowed tx s.layout (key_if f key true) now) (sym at) after;
        };
        sends = tt;
      }
  told u key epoch n at false own =
      let fits = fits_at tx s f is (Gathering n) at in
      let now = noted s.gathered u key epoch in
      let keys : KeysAre tx f.keys now =
      noted_map u key epoch s.gathered (λ g. g.tx ≡ tx → g.keys ≡ f.keys) (λ g. g.tx ≡ tx → g.keys ≡ f.keys)
      is.distinct is.keys (λ g apart had. had) (λ apart mine. absurd (other tx u own mine))
      (λ g mine had same. absurd (other tx u own (sym mine ∙ same))) in
      let after : FitsFollowed tx s.layout f now (Gathering n) =
      (fits.0, fits.1, (λ apart. fits.2 (noted_apart u key epoch s.gathered tx apart))) in
      record {
        same = refl;
        state = record {
          distinct = noted_distinct u key epoch s.gathered is.distinct;
          keys = keys;
          fits = subst (FitsFollowed tx s.layout f now) (sym at) after;
        };
        sends = tt;
      }

  unended : is_gathering s.stage ≡ false
      → StepIsFollowed tx s.layout (followed_at tx s f (Takeover LqhTransEnd)) (stay s)
  unended idle = record {
    same = refl;
    state = record {
      distinct = is.distinct;
      keys = is.keys;
      fits = ended_still tx s.layout f s.gathered s.stage idle is.fits;
    };
    sends = tt;
  }

  ended : (n : ℕ) → s.stage ≡ Gathering n → nat_lt 1 n ≡ true
      → StepIsFollowed tx s.layout (followed_at tx s f (Takeover LqhTransEnd)) (stay (at_stage s (Gathering (n - 1))))
  ended n at more =
      let fits = fits_at tx s f is (Gathering n) at in
      let least : 1 ≤ n - 1 = least_less n more in
      record {
        same = refl;
        state = record {
          distinct = is.distinct;
          keys = is.keys;
          fits = (ap (λ a. a - 1) fits.0, least, fits.2);
        };
        sends = tt;
      }

  all_ended : (n : ℕ) → s.stage ≡ Gathering n → nat_lt 1 n ≡ false
      → StepIsFollowed tx s.layout (followed_at tx s f (Takeover LqhTransEnd)) (rule.ruling s)
  all_ended n at last =
      ruled tx s (followed_at tx s f (Takeover LqhTransEnd))
      (none_less f.awaited n (fits_at tx s f is (Gathering n) at).0 last) is.distinct is.keys

  -- a key of the transaction at work is committed
  committed : (u : TxId) (g : Gathered) (e n : ℕ) → first_of s.gathered u ≡ Some g → s.stage ≡ Committing e n
      → nat_lt 1 n ≡ true → (own : Bool) → same_tx u tx ≡ own
      → StepIsFollowed tx s.layout (committed_if f own) (stay (at_stage s (Committing e (n - 1))))
  committed u g e n first at more true own =
      let fits = fits_at tx s f is (Committing e n) at in
      record {
        same = refl;
        state = record {
          distinct = is.distinct;
          keys = is.keys;
          fits = (
            fits.0,
            first_map (λ g. g.tx ≡ tx → length g.keys ≤ n + f.committed)
                (λ g. g.tx ≡ tx → length g.keys ≤ (n - 1) + (f.committed + 1)) s.gathered
                (λ g h same. count_down (length g.keys) n f.committed more (h same)) fits.1,
          );
        };
        sends = tt;
      }
  committed u g e n first at more false own =
      let fits = fits_at tx s f is (Committing e n) at in
      let found = first_found s.gathered u g first in
      record {
        same = refl;
        state = record {
          distinct = is.distinct;
          keys = is.keys;
          fits = (
            fits.0,
            first_with (λ g. g.tx ≡ tx → length g.keys ≤ (n - 1) + f.committed) s.gathered g found.there
                (λ same. absurd (other tx u own (sym found.own ∙ same))),
          );
        };
        sends = tt;
      }

  aborted : (u : TxId) (g : Gathered) (n : ℕ) → first_of s.gathered u ≡ Some g → s.stage ≡ Aborting n
      → nat_lt 1 n ≡ true → (own : Bool) → same_tx u tx ≡ own
      → StepIsFollowed tx s.layout (aborted_if f own) (stay (at_stage s (Aborting (n - 1))))
  aborted u g n first at more true own =
      let fits = fits_at tx s f is (Aborting n) at in
      record {
        same = refl;
        state = record {
          distinct = is.distinct;
          keys = is.keys;
          fits = (
            fits.0,
            first_map (λ g. g.tx ≡ tx → rule.replica_count s.layout g.keys ≤ n + f.aborted)
                (λ g. g.tx ≡ tx → rule.replica_count s.layout g.keys ≤ (n - 1) + (f.aborted + 1)) s.gathered
                (λ g h same. count_down (rule.replica_count s.layout g.keys) n f.aborted more (h same)) fits.1,
          );
        };
        sends = tt;
      }
  aborted u g n first at more false own =
      let fits = fits_at tx s f is (Aborting n) at in
      let found = first_found s.gathered u g first in
      record {
        same = refl;
        state = record {
          distinct = is.distinct;
          keys = is.keys;
          fits = (
            fits.0,
            first_with (λ g. g.tx ≡ tx → rule.replica_count s.layout g.keys ≤ (n - 1) + f.aborted) s.gathered g
                found.there (λ same. absurd (other tx u own (sym found.own ∙ same))),
          );
        };
        sends = tt;
      }

  -- all keys are committed
  completing : (now : Followed) (g : Gathered) (e m : ℕ) → slice_get s.gathered 0 ≡ Some g → now.awaited ≡ 0
      → KeysAre tx now.keys s.gathered → First (λ g. g.tx ≡ tx → length g.keys ≤ now.committed) s.gathered
      → StepIsFollowed tx s.layout now (rule.entering s g (Completing e m))
  unfolding rule.entering
  completing now g e m there none keys first =
      let state : IsFollowed tx (rule.entering s g (Completing e m)).state now =
      record { distinct = is.distinct; keys = keys; fits = (none, first) } in
      record {
        same = refl;
        state = state;
        sends = stage_each (λ o. AllHaveAnswered tx s.layout now o.body) (plainly tx s.layout now) s.node s.layout
            (Completing e m) g 0
            (front_answered tx (rule.entering s g (Completing e m)).state now state (Completing e m) g there refl
            (none, first));
      }

  all_committed : (u : TxId) (g : Gathered) (e n : ℕ) → first_of s.gathered u ≡ Some g → s.stage ≡ Committing e n
      → nat_lt 1 n ≡ false → (own : Bool) → same_tx u tx ≡ own
      → StepIsFollowed tx s.layout (committed_if f own) (rule.entering s g (Completing e (length g.keys)))
  all_committed u g e n first at last true own =
      let fits = fits_at tx s f is (Committing e n) at in
      completing (committed_if f true) g e (length g.keys) (first_found s.gathered u g first).there fits.0 is.keys
      (first_map (λ g. g.tx ≡ tx → length g.keys ≤ n + f.committed)
      (λ g. g.tx ≡ tx → length g.keys ≤ f.committed + 1) s.gathered
      (λ g h same. count_out (length g.keys) n f.committed last (h same)) fits.1)
  all_committed u g e n first at last false own =
      let fits = fits_at tx s f is (Committing e n) at in
      let found = first_found s.gathered u g first in
      completing f g e (length g.keys) found.there fits.0 is.keys
      (first_with (λ g. g.tx ≡ tx → length g.keys ≤ f.committed) s.gathered g found.there
      (λ same. absurd (other tx u own (sym found.own ∙ same))))

  -- a transaction is aborted at all replicas
  ended_by : (now : Followed) (u : TxId) → now.awaited ≡ 0 → KeysAre tx now.keys s.gathered
      → (u ≡ tx → rule.replica_count s.layout now.keys ≤ now.aborted)
      → StepIsFollowed tx s.layout now (rule.after (sends_only (told_aborted u ∷ [])) (rule.finishing s))
  ended_by now u none keys due =
      let next = finished tx s now none is.distinct keys in
      record { same = next.same; state = next.state; sends = (due, next.sends) }

  all_aborted : (u : TxId) (g : Gathered) (n : ℕ) → first_of s.gathered u ≡ Some g → s.stage ≡ Aborting n
      → nat_lt 1 n ≡ false → (own : Bool) → same_tx u tx ≡ own
      → StepIsFollowed tx s.layout (aborted_if f own)
      (rule.after (sends_only (told_aborted u ∷ [])) (rule.finishing s))
  all_aborted u g n first at last true own =
      let fits = fits_at tx s f is (Aborting n) at in
      let found = first_found s.gathered u g first in
      ended_by (aborted_if f true) u fits.0 is.keys
      (λ same.
      let mine : g.tx ≡ tx = found.own ∙ same in
      let keys : g.keys ≡ f.keys =
      each_first (λ g. g.tx ≡ tx → g.keys ≡ f.keys) s.gathered g found.there is.keys mine in
      let few = first_is (λ g. g.tx ≡ tx → rule.replica_count s.layout g.keys ≤ n + f.aborted) s.gathered g
      found.there fits.1 mine in
      subst (λ keys. rule.replica_count s.layout keys ≤ f.aborted + 1) keys
      (count_out (rule.replica_count s.layout g.keys) n f.aborted last few))
  all_aborted u g n first at last false own =
      ended_by f u (fits_at tx s f is (Aborting n) at).0 is.keys (λ same. absurd (other tx u own same))

  went_on : (u : TxId) (place : ℕ) (g : Gathered) → rule.is_at_work s.stage ≡ true → first_of s.gathered u ≡ Some g
      → StepIsFollowed tx s.layout f (rule.sending_on s g place)
  went_on u place g work first = record {
    same = refl;
    state = record { distinct = is.distinct; keys = is.keys; fits = is.fits };
    sends = stage_each (λ o. AllHaveAnswered tx s.layout f o.body) (plainly tx s.layout f) s.node s.layout s.stage g
        place (front_answered tx s f is s.stage g (first_found s.gathered u g first).there work is.fits);
  }

  -- whatever signal comes
  step_followed : (body : Body) → StepIsFollowed tx s.layout (followed_at tx s f body) (takeover_table s body)
  step_followed body =
      takeover_each s (StepIsFollowed tx s.layout (followed_at tx s f body)) body (record {
        stays = λ plain. record {
          same = refl;
          state = still_followed tx (member_count s.layout.view) s f body plain is;
          sends = tt;
        };
        untold = λ u key state epoch b idle. at_body _ b _ (untold key (same_tx u tx) idle);
        unended = λ b idle. at_body _ b _ (unended idle);
        orders = λ b some. at_body _ b _ (ordered false some);
        orders_nobody = λ b none. at_body _ b _ (ordered true none);
        asks = λ place n b due at. record {
          same = refl;
          state = record {
            distinct = is.distinct;
            keys = (asking_on (ap is_heard b)).keys;
            fits = (asking_on (ap is_heard b)).fits;
          };
          sends = asks_each (λ o. AllHaveAnswered tx s.layout (followed_at tx s f body) o.body)
              (plainly tx s.layout (followed_at tx s f body)) s.node s.layout.view place;
        };
        tells = λ u key state epoch n b at. at_body _ b _ (heard u key (told_epoch state epoch) n at);
        ends = λ n b at more. at_body _ b _ (ended n at more);
        all_end = λ n b at last. at_body _ b _ (all_ended n at last);
        commits = λ u key g e n b first at more. at_body _ b _ (committed u g e n first at more (same_tx u tx) refl);
        all_commit = λ u key g e n b first at last.
            at_body _ b _ (all_committed u g e n first at last (same_tx u tx) refl);
        completes = λ u key g e n b first at more. at_body _ b _ (record {
          same = refl;
          state = record { distinct = is.distinct; keys = is.keys; fits = fits_at tx s f is (Completing e n) at };
          sends = tt;
        });
        all_complete = λ u key g e n b first at last.
            at_body _ b _ (finished tx s f (fits_at tx s f is (Completing e n) at).0 is.distinct is.keys);
        aborts = λ u key g n b first at more. at_body _ b _ (aborted u g n first at more (same_tx u tx) refl);
        all_abort = λ u key g n b first at last.
            at_body _ b _ (all_aborted u g n first at last (same_tx u tx) refl);
        goes_on = λ u place g b due work first. at_body _ b _ (went_on u place g work first);
      })
    where
      at_body : (b : Body) → body ≡ b → (step : Step TakeoverState)
          → StepIsFollowed tx s.layout (followed_at tx s f b) step
          → StepIsFollowed tx s.layout (followed_at tx s f body) step
      at_body b same step so = subst (λ b. StepIsFollowed tx s.layout (followed_at tx s f b) step) (sym same) so

      asking_on : is_heard body ≡ false → IsFollowed tx s (followed_at tx s f body)
      asking_on plain = still_followed tx (member_count s.layout.view) s f body plain is

      heard : (u : TxId) (key : List ℕ) (epoch : Option ℕ) (n : ℕ) → s.stage ≡ Gathering n
          → StepIsFollowed tx s.layout (key_if f key (nat_lt 0 f.awaited && same_tx u tx))
          (stay (with_gathered s (noted s.gathered u key epoch)))
      heard u key epoch n at =
          let fits = fits_at tx s f is (Gathering n) at in
          let some : nat_lt 0 f.awaited ≡ true = is_some_of f.awaited n fits.0 fits.1 in
          subst (λ b. StepIsFollowed tx s.layout (key_if f key (b && same_tx u tx))
          (stay (with_gathered s (noted s.gathered u key epoch)))) (sym some)
          (told u key epoch n at (same_tx u tx) refl)

-- and so along all signals
along : (tx : TxId) (layout : Layout) (s : TakeoverState) (f : Followed) (xs : List Signal) → s.layout ≡ layout
    → IsFollowed tx s f
    → EachSent (follow tx (member_count layout.view)) (λ f send. AllHaveAnswered tx layout f send.body) s f xs
along tx layout s f [] same is = tt
along tx layout s f (x ∷ xs) same is =
    let step = subst (λ (l : Layout). StepIsFollowed tx l (follow tx (member_count l.view) f x.body) (takeover_row s x))
    same (step_followed tx s f is x.body) in (
      step.sends,
      along tx layout (takeover_row s x).state (follow tx (member_count layout.view) f x.body) xs step.same step.state,
    )

pub tells_last : TellsWhenAllHaveAnswered
tells_last tx node layout xs =
    along tx layout (resting node layout) unfollowed xs refl (record { distinct = tt; keys = tt; fits = refl })
