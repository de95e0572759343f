-- What holds of each form of step of a takeover holds of what it does at each signal.
use Rattle.std.proofs.Common.{◌≡◌, ◌==◌, ℕ, Bool, true, false, List, [], ◌∷◌, length, nat_lt, refl, ap}
use Rattle.std.specs.Prelude.{◌-◌, Option, None, Some}
use Rattle.sig_core.specs.declared.member.TxId.{TxId}
use Rattle.sig_core.specs.declared.signal.Body.{Body}
use Rattle.sig_core.specs.declared.signal.Body.TheVariants.{Host, Chain, Takeover}
use Rattle.sig_core.specs.declared.signal.chain.ChainSignal.TheVariants.{Committed, Completed, Aborted}
use Rattle.sig_core.specs.declared.signal.host.HostSignal.TheVariants.{Continue}
use Rattle.sig_core.specs.declared.signal.host.Work.TheVariants.{Transaction, Members}
use Rattle.sig_core.specs.declared.signal.takeover.RecordState.{RecordState}
use Rattle.sig_core.specs.declared.signal.takeover.TakeoverSignal.TheVariants.{TakeoverOrd, LqhTransConf, LqhTransEnd}
use Rattle.sig_core.specs.Step.{Step, sends_only, stay}
use Rattle.takeover_block.specs.declared.gathered.Gathered.{Gathered}
use Rattle.takeover_block.specs.declared.stage.Stage.{Stage}
use Rattle.takeover_block.specs.declared.stage.Stage.TheVariants.{Resting, Gathering, Committing, Completing, Aborting}
use Rattle.takeover_block.specs.Abort as abort
use Rattle.takeover_block.specs.Commit as commit
use Rattle.takeover_block.specs.Gather as gather
use Rattle.takeover_block.specs.Gathered.{first_of, noted, told_epoch}
use Rattle.takeover_block.specs.Rule as rule
use Rattle.takeover_block.specs.Sends.{told_aborted}
use Rattle.takeover_block.specs.State.{TakeoverState, at_stage, with_gathered}
use Rattle.takeover_block.specs.Takeover.{takeover_table}

-- members have still to end
abbrev pub is_gathering : Stage → Bool
is_gathering (Gathering awaited) = true
is_gathering Resting = false
is_gathering (Committing epoch awaited) = false
is_gathering (Completing epoch awaited) = false
is_gathering (Aborting awaited) = false

-- the signal orders a takeover, or is an answer of a member to its question
abbrev pub is_heard : Body → Bool
is_heard (Takeover TakeoverOrd) = true
is_heard (Takeover (LqhTransConf tx key state epoch)) = true
is_heard (Takeover LqhTransEnd) = true
is_heard _ = false

-- S is of each step that the takeover may take at the signal
pub record TakeoverForms (s : TakeoverState) (body : Body) (S : Step TakeoverState → Type 0) : Type 0 where
  -- it does nothing
  pub stays : is_heard body ≡ false → S (stay s)
  pub untold : (tx : TxId) (key : List ℕ) (state : RecordState) (epoch : ℕ)
      → body ≡ Takeover (LqhTransConf tx key state epoch) → is_gathering s.stage ≡ false → S (stay s)
  pub unended : body ≡ Takeover LqhTransEnd → is_gathering s.stage ≡ false → S (stay s)
  -- it is ordered, with members to ask or with none, and goes on asking
  pub orders : body ≡ Takeover TakeoverOrd → (gather.member_count s.layout.view == 0) ≡ false
      → S (gather.order_if s (gather.member_count s.layout.view) false)
  pub orders_nobody : body ≡ Takeover TakeoverOrd → (gather.member_count s.layout.view == 0) ≡ true
      → S (gather.order_if s (gather.member_count s.layout.view) true)
  pub asks : (place n : ℕ) → body ≡ Host (Continue Members place) → rule.is_left s place ≡ true → s.stage ≡ Gathering n
      → S (gather.ask_by s place true (Gathering n))
  -- a member tells, and ends, the last one or not
  pub tells : (tx : TxId) (key : List ℕ) (state : RecordState) (epoch n : ℕ)
      → body ≡ Takeover (LqhTransConf tx key state epoch) → s.stage ≡ Gathering n
      → S (stay (with_gathered s (noted s.gathered tx key (told_epoch state epoch))))
  pub ends : (n : ℕ) → body ≡ Takeover LqhTransEnd → s.stage ≡ Gathering n → nat_lt 1 n ≡ true
      → S (stay (at_stage s (Gathering (n - 1))))
  pub all_end : (n : ℕ) → body ≡ Takeover LqhTransEnd → s.stage ≡ Gathering n → nat_lt 1 n ≡ false → S (rule.ruling s)
  -- a key is committed, completed or aborted, the last one or not
  pub commits : (tx : TxId) (key : List ℕ) (g : Gathered) (e n : ℕ) → body ≡ Chain (Committed tx key)
      → first_of s.gathered tx ≡ Some g → s.stage ≡ Committing e n → nat_lt 1 n ≡ true
      → S (stay (at_stage s (Committing e (n - 1))))
  pub all_commit : (tx : TxId) (key : List ℕ) (g : Gathered) (e n : ℕ) → body ≡ Chain (Committed tx key)
      → first_of s.gathered tx ≡ Some g → s.stage ≡ Committing e n → nat_lt 1 n ≡ false
      → S (rule.entering s g (Completing e (length g.keys)))
  pub completes : (tx : TxId) (key : List ℕ) (g : Gathered) (e n : ℕ) → body ≡ Chain (Completed tx key)
      → first_of s.gathered tx ≡ Some g → s.stage ≡ Completing e n → nat_lt 1 n ≡ true
      → S (stay (at_stage s (Completing e (n - 1))))
  pub all_complete : (tx : TxId) (key : List ℕ) (g : Gathered) (e n : ℕ) → body ≡ Chain (Completed tx key)
      → first_of s.gathered tx ≡ Some g → s.stage ≡ Completing e n → nat_lt 1 n ≡ false → S (rule.finishing s)
  pub aborts : (tx : TxId) (key : List ℕ) (g : Gathered) (n : ℕ) → body ≡ Chain (Aborted tx key)
      → first_of s.gathered tx ≡ Some g → s.stage ≡ Aborting n → nat_lt 1 n ≡ true
      → S (stay (at_stage s (Aborting (n - 1))))
  pub all_abort : (tx : TxId) (key : List ℕ) (g : Gathered) (n : ℕ) → body ≡ Chain (Aborted tx key)
      → first_of s.gathered tx ≡ Some g → s.stage ≡ Aborting n → nat_lt 1 n ≡ false
      → S (rule.after (sends_only (told_aborted tx ∷ [])) (rule.finishing s))
  -- the list of its transaction goes on
  pub goes_on : (tx : TxId) (place : ℕ) (g : Gathered) → body ≡ Host (Continue (Transaction tx) place)
      → rule.is_left s place ≡ true → rule.is_at_work s.stage ≡ true → first_of s.gathered tx ≡ Some g
      → S (rule.sending_on s g place)

module _ (s : TakeoverState) (S : Step TakeoverState → Type 0) where
  ordered : TakeoverForms s (Takeover TakeoverOrd) S → S (gather.order_row s)
  unfolding gather.order_row
  ordered forms = by (gather.member_count s.layout.view == 0) refl
    where
      by : (none : Bool) → (gather.member_count s.layout.view == 0) ≡ none
          → S (gather.order_if s (gather.member_count s.layout.view) none)
      by true is = forms.orders_nobody refl is
      by false is = forms.orders refl is

  asked : (place : ℕ) → TakeoverForms s (Host (Continue Members place)) S → S (gather.ask_row s place)
  unfolding gather.ask_row
  asked place forms = by (rule.is_left s place) refl s.stage refl
    where
      by : (due : Bool) → rule.is_left s place ≡ due → (stage : Stage) → s.stage ≡ stage
          → S (gather.ask_by s place due stage)
      by true due (Gathering n) is = forms.asks place n refl due is
      by true due Resting is = forms.stays refl
      by true due (Committing e n) is = forms.stays refl
      by true due (Completing e n) is = forms.stays refl
      by true due (Aborting n) is = forms.stays refl
      by false due stage is = forms.stays refl

  told : (tx : TxId) (key : List ℕ) (state : RecordState) (epoch : ℕ)
      → TakeoverForms s (Takeover (LqhTransConf tx key state epoch)) S → S (gather.tell_row s tx key state epoch)
  unfolding gather.tell_row
  told tx key state epoch forms = by s.stage refl
    where
      by : (stage : Stage) → s.stage ≡ stage → S (gather.tell_by s tx key (told_epoch state epoch) stage)
      by (Gathering n) is = forms.tells tx key state epoch n refl is
      by Resting is = forms.untold tx key state epoch refl (ap is_gathering is)
      by (Committing e n) is = forms.untold tx key state epoch refl (ap is_gathering is)
      by (Completing e n) is = forms.untold tx key state epoch refl (ap is_gathering is)
      by (Aborting n) is = forms.untold tx key state epoch refl (ap is_gathering is)

  ended : TakeoverForms s (Takeover LqhTransEnd) S → S (gather.end_row s)
  unfolding gather.end_row
  ended forms = by s.stage refl
    where
      counted : (n : ℕ) → s.stage ≡ Gathering n → (more : Bool) → nat_lt 1 n ≡ more → S (gather.end_if s n more)
      counted n is true more = forms.ends n refl is more
      counted n is false last = forms.all_end n refl is last

      by : (stage : Stage) → s.stage ≡ stage → S (gather.end_by s stage)
      by (Gathering n) is = counted n is (nat_lt 1 n) refl
      by Resting is = forms.unended refl (ap is_gathering is)
      by (Committing e n) is = forms.unended refl (ap is_gathering is)
      by (Completing e n) is = forms.unended refl (ap is_gathering is)
      by (Aborting n) is = forms.unended refl (ap is_gathering is)

  committed : (tx : TxId) (key : List ℕ) → TakeoverForms s (Chain (Committed tx key)) S → S (commit.committed_row s tx)
  unfolding commit.committed_row
  committed tx key forms = by (first_of s.gathered tx) refl s.stage refl
    where
      counted : (g : Gathered) → first_of s.gathered tx ≡ Some g → (e n : ℕ) → s.stage ≡ Committing e n
          → (more : Bool) → nat_lt 1 n ≡ more → S (commit.committed_if s g e n more)
      counted g first e n is true more = forms.commits tx key g e n refl first is more
      counted g first e n is false last = forms.all_commit tx key g e n refl first is last

      by : (g : Option Gathered) → first_of s.gathered tx ≡ g → (stage : Stage) → s.stage ≡ stage
          → S (commit.committed_by s g stage)
      by (Some g) first (Committing e n) is = counted g first e n is (nat_lt 1 n) refl
      by (Some g) first Resting is = forms.stays refl
      by (Some g) first (Gathering n) is = forms.stays refl
      by (Some g) first (Completing e n) is = forms.stays refl
      by (Some g) first (Aborting n) is = forms.stays refl
      by None first stage is = forms.stays refl

  completed : (tx : TxId) (key : List ℕ) → TakeoverForms s (Chain (Completed tx key)) S → S (commit.completed_row s tx)
  unfolding commit.completed_row
  completed tx key forms = by (first_of s.gathered tx) refl s.stage refl
    where
      counted : (g : Gathered) → first_of s.gathered tx ≡ Some g → (e n : ℕ) → s.stage ≡ Completing e n
          → (more : Bool) → nat_lt 1 n ≡ more → S (commit.completed_if s e n more)
      counted g first e n is true more = forms.completes tx key g e n refl first is more
      counted g first e n is false last = forms.all_complete tx key g e n refl first is last

      by : (g : Option Gathered) → first_of s.gathered tx ≡ g → (stage : Stage) → s.stage ≡ stage
          → S (commit.completed_by s g stage)
      by (Some g) first (Completing e n) is = counted g first e n is (nat_lt 1 n) refl
      by (Some g) first Resting is = forms.stays refl
      by (Some g) first (Gathering n) is = forms.stays refl
      by (Some g) first (Committing e n) is = forms.stays refl
      by (Some g) first (Aborting n) is = forms.stays refl
      by None first stage is = forms.stays refl

  aborted : (tx : TxId) (key : List ℕ) → TakeoverForms s (Chain (Aborted tx key)) S → S (abort.aborted_row s tx)
  unfolding abort.aborted_row
  aborted tx key forms = by (first_of s.gathered tx) refl s.stage refl
    where
      counted : (g : Gathered) → first_of s.gathered tx ≡ Some g → (n : ℕ) → s.stage ≡ Aborting n
          → (more : Bool) → nat_lt 1 n ≡ more → S (abort.aborted_if s tx n more)
      counted g first n is true more = forms.aborts tx key g n refl first is more
      counted g first n is false last = forms.all_abort tx key g n refl first is last

      by : (g : Option Gathered) → first_of s.gathered tx ≡ g → (stage : Stage) → s.stage ≡ stage
          → S (abort.aborted_by s tx g stage)
      by (Some g) first (Aborting n) is = counted g first n is (nat_lt 1 n) refl
      by (Some g) first Resting is = forms.stays refl
      by (Some g) first (Gathering n) is = forms.stays refl
      by (Some g) first (Committing e n) is = forms.stays refl
      by (Some g) first (Completing e n) is = forms.stays refl
      by None first stage is = forms.stays refl

  went_on : (tx : TxId) (place : ℕ) → TakeoverForms s (Host (Continue (Transaction tx) place)) S
      → S (rule.go_on_row s tx place)
  unfolding rule.go_on_row
  went_on tx place forms =
      by (rule.is_left s place) refl (rule.is_at_work s.stage) refl (first_of s.gathered tx) refl
    where
      by : (due : Bool) → rule.is_left s place ≡ due → (work : Bool) → rule.is_at_work s.stage ≡ work
          → (g : Option Gathered) → first_of s.gathered tx ≡ g → S (rule.go_on_by s place due work g)
      by true due true work (Some g) first = forms.goes_on tx place g refl due work first
      by true due true work None first = forms.stays refl
      by true due false work g first = forms.stays refl
      by false due work is g first = forms.stays refl

  -- whatever the takeover takes
  pub takeover_each : (body : Body) → TakeoverForms s body S → S (takeover_table s body)
  takeover_each (Takeover TakeoverOrd) forms = ordered forms
  takeover_each (Takeover (LqhTransConf tx key state epoch)) forms = told tx key state epoch forms
  takeover_each (Takeover LqhTransEnd) forms = ended forms
  takeover_each (Chain (Committed tx key)) forms = committed tx key forms
  takeover_each (Chain (Completed tx key)) forms = completed tx key forms
  takeover_each (Chain (Aborted tx key)) forms = aborted tx key forms
  takeover_each (Host (Continue (Transaction tx) place)) forms = went_on tx place forms
  takeover_each (Host (Continue Members place)) forms = asked place forms
  takeover_each _ forms = forms.stays refl
