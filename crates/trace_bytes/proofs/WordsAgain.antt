-- What is written of numbers, words, members and views is read again.
use Rattle.std.proofs.Common.{◌≡◌, ℕ, zero, suc, ◌+◌, ◌-◌, ◌≤◌, ◌<◌, ◌^◌, Bool, true, false, List, [], ◌∷◌, ◌++◌}
use Rattle.std.proofs.Common.{length, refl, sym, ap, subst, ◌∙◌, arith, lit≤}
use Rattle.std.specs.Prelude.{Option, None, Some, Result, Ok, Err, nat_eq, nat_lt, position, ◌==◌, ◌&&◌, if◌then◌else◌}
use Rattle.std.specs.Int.{w16, w32, w64}
use Rattle.std.proofs.lemmas.Bool.{eqb-true, lt-ltb}
use Rattle.std.proofs.lemmas.Nat.{be_bytes_2, from_be_bytes-to_be_bytes_2}
use Rattle.sig_core.specs.declared.key.TheConstants.{SPACE}
use Rattle.sig_core.specs.declared.member.HostId.{HostId}
use Rattle.sig_core.specs.declared.member.Member.{Member}
use Rattle.sig_core.specs.declared.member.TxId.{TxId}
use Rattle.sig_core.specs.declared.view.View.{View}
use Rattle.sig_core.specs.declared.change.Change.{Change}
use Rattle.sig_core.specs.IndexKey.{is_index, word_in}
use Rattle.sig_core.specs.Redo.{word}
use Rattle.sig_core.specs.Word.{is_unprintable}
use Rattle.redo_format.specs.Reading.{◌>>=◌, and_then, told, byte_at, run_at, word_at}
use Rattle.redo_format.proofs.Readers.{IsWidth, IsWord, reads_byte, reads_number, reads_run, reads_word, four_bytes}
use Rattle.redo_format.proofs.Readers.{eight_bytes}
use Rattle.trace_bytes.specs.Numbers.{u8_bytes, IsU8, u8_at, u16_bytes, IsU16, u16_at, u32_bytes, IsU32, u32_at}
use Rattle.trace_bytes.specs.Numbers.{u64_bytes, IsU64, u64_at}
use Rattle.trace_bytes.specs.Words.{bool_bytes, IsBool, bool_at, always, option_bytes, IsOption, some_at, option_at}
use Rattle.trace_bytes.specs.Words.{opt_u8_bytes, IsOptU8, opt_u8_at, opt_u64_bytes, IsOptU64, opt_u64_at, name_bytes}
use Rattle.trace_bytes.specs.Words.{IsName, name_at, value_bytes, IsValue, value_at, key_bytes, IsKey, key_run_at}
use Rattle.trace_bytes.specs.Words.{key_at, opt_value_bytes, IsOptValue, opt_value_at, row_bytes, IsRow, row_at}
use Rattle.trace_bytes.specs.Words.{opt_row_bytes, IsOptRow, opt_row_at, change_bytes, IsChange, change_of, change_at}
use Rattle.trace_bytes.specs.Words.{host_bytes, IsHost, host_of, host_at, tx_bytes, IsTx, tx_of, tx_at, member_bytes}
use Rattle.trace_bytes.specs.Words.{IsMember, member_of, member_at, opt_member_bytes, IsOptMember, opt_member_at}
use Rattle.trace_bytes.specs.Words.{members_bytes, IsMembers, members_at, chain_bytes, IsChain, chain_at, view_bytes}
use Rattle.trace_bytes.specs.Words.{IsView, view_of, view_at}
use Rattle.trace_bytes.proofs.Again.{Again, again, again_as, both, from_reads, known, known_in}
use Rattle.trace_bytes.proofs.ListsAgain.{again_short_list}

-- ---- numbers

pub again_u8 : Again IsU8 u8_bytes u8_at
again_u8 = from_reads (reads_byte 0 255) (λ n is. (omega arith, omega (arith, is)))

pub two_bytes : IsWidth w16 (2 ^ 16)
two_bytes = record {
  size = λ n. refl;
  spelled = λ bytes len are. be_bytes_2 bytes _ len are refl;
  again = λ n lt. from_be_bytes-to_be_bytes_2 n lt;
  below = λ bytes are. omega (arith, are 0, are 1);
}

pub again_u16 : Again IsU16 u16_bytes u16_at
unfolding u16_bytes
again_u16 = from_reads (reads_number w16 (2 ^ 16) two_bytes) (λ n is. is)

pub again_u32 : Again IsU32 u32_bytes u32_at
unfolding u32_bytes
again_u32 = from_reads (reads_number w32 (2 ^ 32) four_bytes) (λ n is. is)

pub again_u64 : Again IsU64 u64_bytes u64_at
unfolding u64_bytes
again_u64 = from_reads (reads_number w64 (2 ^ 64) eight_bytes) (λ n is. is)

bool_again : (b : Bool) (rest : List ℕ) → IsBool b → bool_at (bool_bytes b ++ rest) ≡ Ok (b, rest)
unfolding bool_at
bool_again true rest is = refl
bool_again false rest is = refl

pub again_bool : Again IsBool bool_bytes bool_at
again_bool = record { reads = bool_again }

-- ---- what may be left out

option_again : {A : Type 0} {Is : A → Type 0} {spelled : A → List ℕ} {item : List ℕ → Result (A × List ℕ) ℕ}
    → Again Is spelled item → (x : Option A) (rest : List ℕ) → IsOption Is x
    → option_at item (option_bytes spelled x ++ rest) ≡ Ok (x, rest)
option_again one None rest is = refl
option_again {spelled = spelled} {item = item} one (Some x) rest is =
    known 1 (some_at item) 1 (spelled x ++ rest) (Some x, rest) (lit≤ tt) (again (λ y. Some y) one x rest is)

pub again_option : {A : Type 0} {Is : A → Type 0} {spelled : A → List ℕ} {item : List ℕ → Result (A × List ℕ) ℕ}
    → Again Is spelled item → Again (IsOption Is) (option_bytes spelled) (option_at item)
again_option one = record { reads = option_again one }

pub again_opt_u8 : Again IsOptU8 opt_u8_bytes opt_u8_at
unfolding opt_u8_at
again_opt_u8 = again_option again_u8

pub again_opt_u64 : Again IsOptU64 opt_u64_bytes opt_u64_at
unfolding opt_u64_at
again_opt_u64 = again_option again_u64

pub again_name : Again IsName name_bytes name_at
unfolding name_at
again_name = again_option again_u16

-- ---- words

pub again_value : Again IsValue value_bytes value_at
unfolding value_at
again_value = from_reads (reads_word 0 200) (λ w is. record { long = is.0; short = is.1; plain = is.2 })

run_known : (run rest : List ℕ) → position is_unprintable run ≡ None
    → run_at (length run) (run ++ rest) ≡ Ok (run, rest)
run_known run rest plain = (reads_run (length run)).again run rest (refl, plain)

-- behind the length of a key
key_run : (byte : ℕ) (run rest : List ℕ) (space : Bool) → nat_eq byte SPACE ≡ space → IsKey (byte ∷ run)
    → key_run_at (length (byte ∷ run)) ((byte ∷ run) ++ rest) ≡ Ok (byte ∷ run, rest)
unfolding key_run_at
key_run byte run rest true same is =
    let behind : word_in (byte ∷ run) ≡ run = rw same refl in
    let some : 1 ≤ length run = subst (λ w. 1 ≤ length w) behind is.0 in
    let plain : position is_unprintable run ≡ None = subst (λ w. position is_unprintable w ≡ None) behind is.2 in
    let more : nat_lt 1 (length (byte ∷ run)) ≡ true = lt-ltb _ _ (omega (arith, some)) in
    let less : length (byte ∷ run) - 1 ≡ length run = omega arith in
    let begins : byte ≡ SPACE = eqb-true _ _ same in
    rw (same, more, less, run_known run rest plain) (ap (λ b. Ok (b ∷ run, rest)) (sym begins))
key_run byte run rest false same is =
    let whole : word_in (byte ∷ run) ≡ byte ∷ run = rw same refl in
    let plain : position is_unprintable (byte ∷ run) ≡ None =
    subst (λ w. position is_unprintable w ≡ None) whole is.2 in
    rw same (run_known (byte ∷ run) rest plain)

key_again : (key rest : List ℕ) → IsKey key → key_at (key_bytes key ++ rest) ≡ Ok (key, rest)
unfolding key_at
key_again [] rest is = absurd (omega (arith, is.0))
key_again (byte ∷ run) rest is =
    known_in 1 32 key_run_at (length (byte ∷ run)) ((byte ∷ run) ++ rest) (byte ∷ run, rest) (omega arith) is.1
    (key_run byte run rest (nat_eq byte SPACE) refl is)

pub again_key : Again IsKey key_bytes key_at
again_key = record { reads = key_again }

pub again_opt_value : Again IsOptValue opt_value_bytes opt_value_at
unfolding opt_value_at
again_opt_value = again_option again_value

-- ---- rows and changes

pub again_row : Again IsRow row_bytes row_at
unfolding row_at
again_row = both again_key again_value

pub again_opt_row : Again IsOptRow opt_row_bytes opt_row_at
unfolding opt_row_at
again_opt_row = again_option again_row

pub again_change : Again IsChange change_bytes change_at
unfolding change_at
again_change = again_as IsChange change_of (λ change. (change.key, change.image)) (both again_key again_opt_value)
    (λ change is. is) (λ change is. refl)

-- ---- hosts, transactions, members and views

pub again_host : Again IsHost host_bytes host_at
unfolding host_at
again_host = again_as IsHost host_of (λ host. host.0) again_u32 (λ host is. is) (λ host is. refl)

pub again_tx : Again IsTx tx_bytes tx_at
unfolding tx_at
again_tx =
    again_as IsTx tx_of (λ tx. (tx.tc, (tx.start, tx.seq))) (both again_u8 (both again_u32 again_u64))
    (λ tx is. (is.0, (is.1, is.2))) (λ tx is. refl)

pub again_member : Again IsMember member_bytes member_at
unfolding member_at
again_member = again_as IsMember member_of (λ member. (member.node, member.start)) (both again_u8 again_u32)
    (λ member is. is) (λ member is. refl)

pub again_opt_member : Again IsOptMember opt_member_bytes opt_member_at
unfolding opt_member_at
again_opt_member = again_option again_member

pub again_members : Again IsMembers members_bytes members_at
unfolding members_at
again_members = again_short_list 8 (omega arith) again_member

pub again_chain : Again IsChain chain_bytes chain_at
again_chain = again_members

pub again_view : Again IsView view_bytes view_at
unfolding view_at
again_view =
    again_as IsView view_of (λ view. (view.number, (view.full, view.starting)))
    (both again_u64 (both again_members again_members))
    (λ view is. (is.0, (is.1, is.2))) (λ view is. refl)
