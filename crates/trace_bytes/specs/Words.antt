-- The bytes of words, options, transactions, members and views.
use Rattle.std.specs.Prelude.{◌≡◌, ℕ, ◌-◌, ◌^◌, ◌<◌, ◌≤◌, ◌==◌, ◌&&◌, Bool, true, false, nat_lt, if◌then◌else◌, List}
use Rattle.std.specs.Prelude.{[], ◌∷◌, length, drop, position, Option, None, Some, Ok}
use Rattle.sig_core.specs.declared.key.TheConstants.{KEY_BYTES, SPACE}
use Rattle.sig_core.specs.declared.value.TheConstants.{VALUE_BYTES}
use Rattle.sig_core.specs.declared.member.HostId.{HostId}
use Rattle.sig_core.specs.declared.member.Member.{Member}
use Rattle.sig_core.specs.declared.member.TxId.{TxId}
use Rattle.sig_core.specs.declared.view.View.{View}
use Rattle.sig_core.specs.declared.change.Change.{Change}
use Rattle.sig_core.specs.IndexKey.{is_index, word_in}
use Rattle.sig_core.specs.Redo.{word}
use Rattle.sig_core.specs.Word.{is_unprintable}
use Rattle.redo_format.specs.Reading.{Reader, and_then, told, byte_at, run_at, word_at}
use Rattle.trace_bytes.specs.Numbers.{u8_bytes, IsU8, u8_at, u16_bytes, IsU16, u16_at, u32_bytes, IsU32, u32_at}
use Rattle.trace_bytes.specs.Numbers.{u64_bytes, IsU64, u64_at}
use Rattle.trace_bytes.specs.Lists.{◌&◌, list_bytes, All, short_list_at}

-- what takes no bytes
abbrev pub always : {A : Type 0} → A → Reader A
always x bytes = Ok (x, bytes)

abbrev pub bool_bytes : Bool → List ℕ
bool_bytes true = 1 ∷ []
bool_bytes false = 0 ∷ []

abbrev pub IsBool : Bool → Type 0
IsBool b = Unit {0}

unfoldable pub bool_at : Reader Bool
bool_at = told (λ flag. flag == 1) (byte_at 0 1)

-- ---- what may be left out: 0, or 1 and what it is

abbrev pub option_bytes : {A : Type 0} → (A → List ℕ) → Option A → List ℕ
option_bytes spelled None = 0 ∷ []
option_bytes spelled (Some x) = 1 ∷ spelled x

abbrev pub IsOption : {A : Type 0} → (A → Type 0) → Option A → Type 0
IsOption Is None = Unit {0}
IsOption Is (Some x) = Is x

abbrev pub some_at : {A : Type 0} → Reader A → ℕ → Reader (Option A)
some_at item flag = if flag == 0 then always None else told (λ x. Some x) item

abbrev pub option_at : {A : Type 0} → Reader A → Reader (Option A)
option_at item = told (λ x. x.1) (and_then (byte_at 0 1) (some_at item))

abbrev pub opt_u8_bytes : Option ℕ → List ℕ
opt_u8_bytes = option_bytes u8_bytes

abbrev pub IsOptU8 : Option ℕ → Type 0
IsOptU8 = IsOption IsU8

unfoldable pub opt_u8_at : Reader (Option ℕ)
opt_u8_at = option_at u8_at

abbrev pub opt_u64_bytes : Option ℕ → List ℕ
opt_u64_bytes = option_bytes u64_bytes

abbrev pub IsOptU64 : Option ℕ → Type 0
IsOptU64 = IsOption IsU64

unfoldable pub opt_u64_at : Reader (Option ℕ)
opt_u64_at = option_at u64_at

-- the name of a transaction
abbrev pub name_bytes : Option ℕ → List ℕ
name_bytes = option_bytes u16_bytes

abbrev pub IsName : Option ℕ → Type 0
IsName = IsOption IsU16

unfoldable pub name_at : Reader (Option ℕ)
name_at = option_at u16_at

-- ---- words, behind their length in one byte

abbrev pub IsRun : ℕ → ℕ → List ℕ → Type 0
IsRun least most run = (least ≤ length run) × (length run ≤ most) × (position is_unprintable run ≡ None)

abbrev pub value_bytes : List ℕ → List ℕ
value_bytes = word

abbrev pub IsValue : List ℕ → Type 0
IsValue = IsRun 0 VALUE_BYTES

unfoldable pub value_at : Reader (List ℕ)
value_at = word_at 0 VALUE_BYTES

-- a key of the index begins with a space
abbrev pub key_bytes : List ℕ → List ℕ
key_bytes = word

abbrev pub IsKey : List ℕ → Type 0
IsKey key = (1 ≤ length (word_in key)) × (length key ≤ KEY_BYTES) × (position is_unprintable (word_in key) ≡ None)

unfoldable pub key_run_at : ℕ → Reader (List ℕ)
key_run_at len bytes =
    if is_index bytes && nat_lt 1 len
    then told (λ run. SPACE ∷ run) (run_at (len - 1)) (drop 1 bytes)
    else run_at len bytes

unfoldable pub key_at : Reader (List ℕ)
key_at = told (λ x. x.1) (and_then (byte_at 1 KEY_BYTES) key_run_at)

abbrev pub opt_value_bytes : Option (List ℕ) → List ℕ
opt_value_bytes = option_bytes value_bytes

abbrev pub IsOptValue : Option (List ℕ) → Type 0
IsOptValue = IsOption IsValue

unfoldable pub opt_value_at : Reader (Option (List ℕ))
opt_value_at = option_at value_at

-- ---- rows and changes

abbrev pub row_bytes : List ℕ × List ℕ → List ℕ
row_bytes row = key_bytes row.0 & value_bytes row.1

abbrev pub IsRow : List ℕ × List ℕ → Type 0
IsRow row = IsKey row.0 × IsValue row.1

unfoldable pub row_at : Reader (List ℕ × List ℕ)
row_at = and_then key_at (λ _. value_at)

abbrev pub opt_row_bytes : Option (List ℕ × List ℕ) → List ℕ
opt_row_bytes = option_bytes row_bytes

abbrev pub IsOptRow : Option (List ℕ × List ℕ) → Type 0
IsOptRow = IsOption IsRow

unfoldable pub opt_row_at : Reader (Option (List ℕ × List ℕ))
opt_row_at = option_at row_at

abbrev pub change_bytes : Change → List ℕ
change_bytes change = key_bytes change.key & opt_value_bytes change.image

abbrev pub IsChange : Change → Type 0
IsChange change = IsKey change.key × IsOptValue change.image

abbrev pub change_of : List ℕ × Option (List ℕ) → Change
change_of x = record { key = x.0; image = x.1 }

unfoldable pub change_at : Reader Change
change_at = told change_of (and_then key_at (λ _. opt_value_at))

-- ---- hosts, transactions, members and views

abbrev pub host_bytes : HostId → List ℕ
host_bytes host = u32_bytes host.0

abbrev pub IsHost : HostId → Type 0
IsHost host = IsU32 host.0

abbrev pub host_of : ℕ → HostId
host_of n = record { 0 = n }

unfoldable pub host_at : Reader HostId
host_at = told host_of u32_at

abbrev pub tx_bytes : TxId → List ℕ
tx_bytes tx = u8_bytes tx.tc & u32_bytes tx.start & u64_bytes tx.seq

abbrev pub IsTx : TxId → Type 0
IsTx tx = IsU8 tx.tc × IsU32 tx.start × IsU64 tx.seq

abbrev pub tx_of : ℕ × (ℕ × ℕ) → TxId
tx_of x = record { tc = x.0; start = x.1.0; seq = x.1.1 }

unfoldable pub tx_at : Reader TxId
tx_at = told tx_of (and_then u8_at (λ _. and_then u32_at (λ _. u64_at)))

abbrev pub member_bytes : Member → List ℕ
member_bytes member = u8_bytes member.node & u32_bytes member.start

abbrev pub IsMember : Member → Type 0
IsMember member = IsU8 member.node × IsU32 member.start

abbrev pub member_of : ℕ × ℕ → Member
member_of x = record { node = x.0; start = x.1 }

unfoldable pub member_at : Reader Member
member_at = told member_of (and_then u8_at (λ _. u32_at))

abbrev pub opt_member_bytes : Option Member → List ℕ
opt_member_bytes = option_bytes member_bytes

abbrev pub IsOptMember : Option Member → Type 0
IsOptMember = IsOption IsMember

unfoldable pub opt_member_at : Reader (Option Member)
opt_member_at = option_at member_at

abbrev pub members_bytes : List Member → List ℕ
members_bytes = list_bytes member_bytes

abbrev pub IsMembers : List Member → Type 0
IsMembers members = (length members ≤ 8) × All IsMember members

unfoldable pub members_at : Reader (List Member)
members_at = short_list_at 8 member_at

abbrev pub chain_bytes : List Member → List ℕ
chain_bytes = members_bytes

abbrev pub IsChain : List Member → Type 0
IsChain = IsMembers

abbrev pub chain_at : Reader (List Member)
chain_at = members_at

abbrev pub view_bytes : View → List ℕ
view_bytes view = u64_bytes view.number & members_bytes view.full & members_bytes view.starting

abbrev pub IsView : View → Type 0
IsView view = IsU64 view.number × IsMembers view.full × IsMembers view.starting

abbrev pub view_of : ℕ × (List Member × List Member) → View
view_of x = record { number = x.0; full = x.1.0; starting = x.1.1 }

unfoldable pub view_at : Reader View
view_at = told view_of (and_then u64_at (λ _. and_then members_at (λ _. members_at)))
