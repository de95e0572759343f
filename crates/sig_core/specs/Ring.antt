-- Where the bytes of a journal lie: in a ring of files.
use Rattle.std.specs.Prelude.{ℕ, ◌+◌, ◌*◌, ◌/◌, ◌%◌}
use Rattle.sig_core.specs.declared.ring.TheConstants.{FIRST_FILE, LOG_FILES, LOG_FILE_BYTES}

-- the file that a position lies in
abbrev pub file_of : ℕ → ℕ → ℕ
file_of parity position = FIRST_FILE + LOG_FILES * parity + position / LOG_FILE_BYTES % LOG_FILES

-- its place there
abbrev pub place_of : ℕ → ℕ
place_of position = position % LOG_FILE_BYTES
