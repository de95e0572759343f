-- How far a coordinator has come with the commits of a transaction in one view, by what it has sent and taken in it;
-- and that each turn leads on.
use Rattle.std.proofs.Common.{◌≡◌, ◌≤◌, ◌+◌, ◌==◌, ◌&&◌, ◌∙◌, ℕ, Bool, true, false, List, [], length, nat_lt, refl, sym}
use Rattle.std.proofs.Common.{ap, arith, subst, take}
use Rattle.std.proofs.lemmas.Bool.{eqb-true, true≢false}
use Rattle.std.specs.List.{count_by}
use Rattle.std.specs.Prelude.{Option, None, Some}
use Rattle.sig_core.specs.declared.member.TxId.{TxId}
use Rattle.sig_core.specs.declared.outs.Outgoing.{Outgoing}
use Rattle.sig_core.specs.declared.portion.TheConstants.{PORTION}
use Rattle.sig_core.specs.declared.signal.Body.{Body}
use Rattle.sig_core.specs.declared.signal.Body.TheVariants.{Chain, Host}
use Rattle.sig_core.specs.declared.signal.chain.ChainSignal.TheVariants.{Commit, Committed, Complete, Completed}
use Rattle.sig_core.specs.declared.signal.host.HostSignal.TheVariants.{Continue}
use Rattle.sig_core.specs.declared.signal.host.Work.TheVariants as work
use Rattle.frag_map.specs.Layout.{Layout}
use Rattle.tc_block.specs.declared.phase.Phase.TheVariants.{Committing, Completing}
use Rattle.tc_block.specs.declared.transaction.Transaction.{Transaction}
use Rattle.tc_block.specs.Part.{part_effects}
use Rattle.tc_block.specs.Phases.{is_aborting, is_decided}
use Rattle.tc_block.specs.Complete.{one_if}
use Rattle.run_laws.specs.Keyed.{AreApart}
use Rattle.outcome_laws.specs.Counts.{count_sent}
use Rattle.outcome_laws.proofs.coordinators.Lists.{none_counted}
use Rattle.run_theory.proofs.Pasts.{each_map}
use Rattle.commit_laws.proofs.drive.Kinds.{Drive, comes, committing, completing, goes}
use Rattle.commit_laws.proofs.drive.Lists.{any, commits_of, completions_of, mine, once_in_commits, only, onward}
use Rattle.commit_laws.proofs.drive.Lists.{part_keys, portion_more, taken_less}
use Rattle.commit_laws.proofs.drive.Turns.{DriveNoKey, DriveNone, drives, drives_key, none_no_key}

-- how many signals there are that pass a test
abbrev pub Counts : Type 0
Counts = (Body → Bool) → ℕ

-- what drives nothing passes none of the tests
pub no_keys : (tx : TxId) (drive : Drive) (wk : List ℕ → Bool) (sends : List Outgoing) → DriveNoKey sends
    → count_sent (goes drive (mine tx wk)) sends ≡ 0
no_keys tx drive wk sends all =
    none_counted (goes drive (mine tx wk)) sends
    (each_map (λ (o : Outgoing). drives_key o.body ≡ false) (λ (o : Outgoing). goes drive (mine tx wk) o.body ≡ false)
    sends
    (λ o is. one drive o.body is) all)
  where
    one : (d : Drive) (body : Body) → drives_key body ≡ false → goes d (mine tx wk) body ≡ false
    one committing (Chain (Commit other key epoch chain at)) is = absurd (true≢false is)
    one committing body is = refl
    one completing (Chain (Complete other key chain at)) is = absurd (true≢false is)
    one completing body is = refl

pub no_onward : (tx : TxId) (at : ℕ) (sends : List Outgoing) → DriveNone sends → count_sent (onward tx at) sends ≡ 0
no_onward tx at sends all =
    none_counted (onward tx at) sends
    (each_map (λ (o : Outgoing). drives o.body ≡ false) (λ (o : Outgoing). onward tx at o.body ≡ false) sends
    (λ o is. one o.body is) all)
  where
    one : (body : Body) → drives body ≡ false → onward tx at body ≡ false
    one (Host (Continue (work.Transaction other) left)) is = absurd (true≢false is)
    one body is = refl

module _ (tx : TxId) where
  -- nothing is sent of it
  pub record Untouched (sent : Counts) : Type 0 where
    pub keys : (drive : Drive) (wk : List ℕ → Bool) → sent (goes drive (mine tx wk)) ≡ 0
    pub goes_on : (at : ℕ) → sent (onward tx at) ≡ 0

  -- a list is sent up to this place, behind these, and goes on there alone
  pub record Sending (sent taken : Counts) (front list : List Outgoing) (place : ℕ) : Type 0 where
    pub keys : (drive : Drive) (wk : List ℕ → Bool)
        → sent (goes drive (mine tx wk))
        ≤ count_sent (goes drive (mine tx wk)) front + count_sent (goes drive (mine tx wk)) (take place list)
    pub goes_on : (at : ℕ)
        → sent (onward tx at) ≤ taken (onward tx at) + one_if (nat_lt place (length list) && (place == at))

  module _ (layout : Layout) where
    -- How far it is with the transaction, which so often is listed to be driven once more.
    pub data Drives (sent taken : Counts) (t : Transaction) (listed : ℕ) : Type 0 where
      undecided : is_decided t.phase ≡ false → is_aborting t.phase ≡ false → listed ≡ 0 → Untouched sent
          → Drives sent taken t listed
      given_up : is_aborting t.phase ≡ true
          → ((drive : Drive) (wk : List ℕ → Bool) → sent (goes drive (mine tx wk)) ≡ 0) → Drives sent taken t listed
      waits : is_decided t.phase ≡ true → listed ≤ 1 → Untouched sent → Drives sent taken t listed
      commits : (epoch awaited place : ℕ) → t.phase ≡ Committing epoch awaited → listed ≡ 0
          → Sending sent taken [] (commits_of layout tx epoch awaited t.touched) place
          → length t.touched ≤ awaited + taken (comes committing (mine tx any)) → Drives sent taken t listed
      completes : (epoch awaited place : ℕ) → t.phase ≡ Completing epoch awaited → listed ≡ 0
          → Sending sent taken (commits_of layout tx epoch awaited t.touched)
          (completions_of layout tx epoch awaited t.touched) place
          → length t.touched ≤ taken (comes committing (mine tx any)) → Drives sent taken t listed

    -- each key was sent once at most
    abbrev pub AreOnce : Counts → Type 0
    AreOnce sent = (drive : Drive) (key : List ℕ) → sent (goes drive (mine tx (only key))) ≤ 1

    -- and one that is forgotten isn't driven any more
    abbrev pub DrivesLeft : Counts → Counts → Option Transaction → ℕ → Type 0
    DrivesLeft sent taken None listed = AreOnce sent
    DrivesLeft sent taken (Some t) listed = Drives sent taken t listed

    pub drives_once : (sent taken : Counts) (t : Transaction) (listed : ℕ) → AreApart t.touched
        → Drives sent taken t listed → AreOnce sent
    drives_once sent taken t listed apart (undecided off unaborted none un) drive key =
        omega (arith, un.keys drive (only key))
    drives_once sent taken t listed apart (given_up is none) drive key = omega (arith, none drive (only key))
    drives_once sent taken t listed apart (waits is few un) drive key = omega (arith, un.keys drive (only key))
    drives_once sent taken t listed apart (commits epoch awaited place at none sending enough) drive key =
        let own = λ (o : Outgoing). goes drive (mine tx (only key)) o.body in
        let nothing : count_sent (goes drive (mine tx (only key))) [] ≡ 0 = refl in
        omega (
          arith,
          sending.keys drive (only key),
          nothing,
          taken_less own place (commits_of layout tx epoch awaited t.touched),
          once_in_commits layout tx drive key epoch awaited t.touched apart,
        )
    drives_once sent taken t listed apart (completes epoch awaited place at none sending enough) drive key =
        let own = λ (o : Outgoing). goes drive (mine tx (only key)) o.body in
        omega (
          arith,
          sending.keys drive (only key),
          taken_less own place (completions_of layout tx epoch awaited t.touched),
          once_in_commits layout tx drive key epoch awaited t.touched apart,
        )

    -- an event adds what it sends and what it takes
    pub record Moves (sent taken sent_now taken_now : Counts) (sends : List Outgoing) : Type 0 where
      pub keys_few : (drive : Drive) (wk : List ℕ → Bool)
          → sent_now (goes drive (mine tx wk))
          ≤ sent (goes drive (mine tx wk)) + count_sent (goes drive (mine tx wk)) sends
      pub onward_few : (at : ℕ) → sent_now (onward tx at) ≤ sent (onward tx at) + count_sent (onward tx at) sends
      pub takes_more : (p : Body → Bool) → taken p ≤ taken_now p

    -- such a signal is counted, and what is taken was sent before
    abbrev pub is_counted : Body → Bool
    is_counted (Host (Continue (work.Transaction one) at)) = true
    is_counted (Chain (Committed one key)) = true
    is_counted (Chain (Completed one key)) = true
    is_counted body = false

    pub record Knows (sent taken taken_now : Counts) (body : Body) : Type 0 where
      pub takes_one : is_counted body ≡ true → (p : Body → Bool) → p body ≡ true → taken p + 1 ≤ taken_now p
      pub goes_on : (at : ℕ) → taken_now (onward tx at) ≤ sent (onward tx at)
      pub comes_back : (drive : Drive) → taken_now (comes drive (mine tx any)) ≤ sent (goes drive (mine tx any))

    module _ (sent taken sent_now taken_now : Counts) (sends : List Outgoing)
        (moves : Moves sent taken sent_now taken_now sends)
      where
        pub still_untouched : DriveNone sends → Untouched sent → Untouched sent_now
        still_untouched none un = record {
          keys = λ drive wk.
              omega (
                arith,
                moves.keys_few drive wk,
                no_keys tx drive wk sends (none_no_key sends none),
                un.keys drive wk,
              );
          goes_on = λ at. omega (arith, moves.onward_few at, no_onward tx at sends none, un.goes_on at);
        }

        pub still_none : DriveNoKey sends → ((drive : Drive) (wk : List ℕ → Bool) → sent (goes drive (mine tx wk)) ≡ 0)
            → (drive : Drive) (wk : List ℕ → Bool) → sent_now (goes drive (mine tx wk)) ≡ 0
        still_none no_key none drive wk =
            omega (arith, moves.keys_few drive wk, no_keys tx drive wk sends no_key, none drive wk)

        pub still_sending : DriveNone sends → (front list : List Outgoing) (place : ℕ)
            → Sending sent taken front list place
            → Sending sent_now taken_now front list place
        still_sending none front list place sending = record {
          keys = λ drive wk.
              omega (
                arith,
                moves.keys_few drive wk,
                no_keys tx drive wk sends (none_no_key sends none),
                sending.keys drive wk,
              );
          goes_on = λ at.
              omega (
                arith,
                moves.onward_few at,
                no_onward tx at sends none,
                sending.goes_on at,
                moves.takes_more (onward tx at),
              );
        }

        -- nothing comes to it
        pub still_drives : DriveNone sends → (t u : Transaction) (listed listed_now : ℕ) → u.phase ≡ t.phase
            → u.touched ≡ t.touched → listed_now ≤ listed → Drives sent taken t listed
            → Drives sent_now taken_now u listed_now
        still_drives none t u listed listed_now phase touched less (undecided off unaborted zero un) =
            undecided (ap is_decided phase ∙ off) (ap is_aborting phase ∙ unaborted) (omega (arith, zero, less))
            (still_untouched none un)
        still_drives none t u listed listed_now phase touched less (given_up is nothing) =
            given_up (ap is_aborting phase ∙ is) (still_none (none_no_key sends none) nothing)
        still_drives none t u listed listed_now phase touched less (waits is few un) =
            waits (ap is_decided phase ∙ is) (omega (arith, few, less)) (still_untouched none un)
        still_drives none t u listed listed_now phase touched less (commits epoch awaited place at zero sending enough)
            =
            commits epoch awaited place (phase ∙ at) (omega (arith, zero, less))
            (subst (λ ts. Sending sent_now taken_now [] (commits_of layout tx epoch awaited ts) place) (sym touched)
            (still_sending none [] (commits_of layout tx epoch awaited t.touched) place sending))
            (omega (arith, ap length touched, enough, moves.takes_more (comes committing (mine tx any))))
        still_drives none t u listed listed_now phase touched less
            (completes epoch awaited place at zero sending enough) =
            completes epoch awaited place (phase ∙ at) (omega (arith, zero, less))
            (subst
            (λ ts. Sending sent_now taken_now (commits_of layout tx epoch awaited ts)
            (completions_of layout tx epoch awaited ts) place)
            (sym touched)
            (still_sending none (commits_of layout tx epoch awaited t.touched)
            (completions_of layout tx epoch awaited t.touched) place sending))
            (omega (arith, ap length touched, enough, moves.takes_more (comes committing (mine tx any))))

        -- it stays within its bound
        pub still_once : DriveNone sends → AreOnce sent → AreOnce sent_now
        still_once none once drive key =
            omega (
              arith,
              moves.keys_few drive (only key),
              no_keys tx drive (only key) sends (none_no_key sends none),
              once drive key,
            )

        -- a list begins to be sent
        pub begins_sending : (node : ℕ) (front list : List Outgoing) → sends ≡ (part_effects node tx list 0).sends
            → ((drive : Drive) (wk : List ℕ → Bool)
            → sent (goes drive (mine tx wk)) ≤ count_sent (goes drive (mine tx wk)) front)
            → ((at : ℕ) → sent (onward tx at) ≤ taken (onward tx at))
            → ((at : ℕ) → count_sent (onward tx at) (part_effects node tx list 0).sends
            ≤ one_if (nat_lt (0 + PORTION) (length list) && ((0 + PORTION) == at)))
            → Sending sent_now taken_now front list (0 + PORTION)
        begins_sending node front list is keys onwards part = record {
          keys = λ drive wk.
              let own = λ (o : Outgoing). goes drive (mine tx wk) o.body in
              let none : count_by own (take 0 list) ≡ 0 = refl in
              omega (
                arith,
                moves.keys_few drive wk,
                ap (count_sent (goes drive (mine tx wk))) is,
                part_keys node tx list 0 drive (mine tx wk),
                portion_more own 0 list,
                none,
                keys drive wk,
              );
          goes_on = λ at.
              omega (
                arith,
                moves.onward_few at,
                ap (count_sent (onward tx at)) is,
                part at,
                onwards at,
                moves.takes_more (onward tx at),
              );
        }

        -- it goes on where it is told to
        pub goes_on_sending : (node : ℕ) (front list : List Outgoing) (place at : ℕ)
            → sends ≡ (part_effects node tx list at).sends
            → ((x : ℕ) → count_sent (onward tx x) (part_effects node tx list at).sends
            ≤ one_if (nat_lt (at + PORTION) (length list) && ((at + PORTION) == x)))
            → taken (onward tx at) + 1 ≤ taken_now (onward tx at) → taken_now (onward tx at) ≤ sent (onward tx at)
            → Sending sent taken front list place
            → Sending sent_now taken_now front list (at + PORTION)
        goes_on_sending node front list place at is part one known sending =
            by (nat_lt place (length list)) (place == at) refl (sending.goes_on at)
          where
            behind : place ≡ at → Sending sent_now taken_now front list (at + PORTION)
            behind same = record {
              keys = λ drive wk.
                  let own = λ (o : Outgoing). goes drive (mine tx wk) o.body in
                  let before : count_by own (take place list) ≡ count_by own (take at list) =
                  ap (λ n. count_by own (take n list)) same in
                  omega (
                    arith,
                    moves.keys_few drive wk,
                    ap (count_sent (goes drive (mine tx wk))) is,
                    part_keys node tx list at drive (mine tx wk),
                    portion_more own at list,
                    before,
                    sending.keys drive wk,
                  );
              goes_on = λ x. onward_now x (at == x) refl (nat_lt place (length list)) (sending.goes_on x);
            }
              where
                -- at the place that it was told nothing is left, and elsewhere nothing was
                onward_now : (x : ℕ) (b : Bool) → (at == x) ≡ b → (c : Bool)
                    → sent (onward tx x) ≤ taken (onward tx x) + one_if (c && (place == x))
                    → sent_now (onward tx x)
                    ≤ taken_now (onward tx x)
                    + one_if (nat_lt (at + PORTION) (length list) && ((at + PORTION) == x))
                onward_now x true e c under =
                    let here : x ≡ at = sym (eqb-true at x e) in
                    let came : taken (onward tx x) + 1 ≤ taken_now (onward tx x) =
                    subst (λ y. taken (onward tx y) + 1 ≤ taken_now (onward tx y)) (sym here) one in
                    omega (
                      arith,
                      moves.onward_few x,
                      ap (count_sent (onward tx x)) is,
                      part x,
                      came,
                      under,
                      few c (place == x),
                    )
                  where
                    few : (c d : Bool) → one_if (c && d) ≤ 1
                    few true true = omega arith
                    few true false = omega arith
                    few false d = omega arith
                onward_now x false e c under =
                    let off : (place == x) ≡ false = ap (λ n. n == x) same ∙ e in
                    omega (
                      arith,
                      moves.onward_few x,
                      ap (count_sent (onward tx x)) is,
                      part x,
                      under,
                      ap (λ d. one_if (c && d)) off,
                      none c,
                      moves.takes_more (onward tx x),
                    )
                  where
                    none : (c : Bool) → one_if (c && false) ≡ 0
                    none true = refl
                    none false = refl

            by : (c d : Bool) → (place == at) ≡ d → sent (onward tx at) ≤ taken (onward tx at) + one_if (c && d)
                → Sending sent_now taken_now front list (at + PORTION)
            by true true e under = behind (eqb-true place at e)
            by true false e under = absurd (omega (arith, under, one, known))
            by false d e under = absurd (omega (arith, under, one, known))
