-- Which command a frame or a sentence is.
use Rattle.std.specs.Prelude.{ℕ, ◌/◌, ◌%◌, ◌^◌, Bool, true, cond, ◌&&◌, ◌||◌, List, [], ◌∷◌, ◌++◌, length, Some, None, codes, Option, ◌==◌, nat_le, slice_index, slice_index_or}
use Rattle.std.specs.Str.{bytes_eq}
use Rattle.numbers.specs.Bytes.{bytes2, u2_at}
use Rattle.wire.specs.Items.{Item, frame_item, sentence_item}
use Rattle.settings.specs.declared.names.Section.{Section}
use Rattle.settings.specs.declared.names.Section.TheVariants.{Port, Messages, Navigation, Pulse, Group}
use Rattle.settings.specs.declared.names.Message.{Message}
use Rattle.settings.specs.declared.names.Message.TheVariants.{Gga, Gll, Rmc, Zda, TimeUtc}
use Rattle.settings.specs.Ranges.{baud_in_range, interval_in_range, systems_in_range}
use Rattle.settings.specs.Strings.{pulse_string, pulse_at, is_kept}
use Rattle.commands.specs.declared.command.Query.{Query}
use Rattle.commands.specs.declared.command.Query.TheVariants as query
use Rattle.commands.specs.declared.command.Start.{Start}
use Rattle.commands.specs.declared.command.Start.TheVariants.{Hot, Warm, Cold, Factory}
use Rattle.commands.specs.declared.command.UnknownStart.{UnknownStart}
use Rattle.commands.specs.declared.command.Sections.{Sections}
use Rattle.commands.specs.Settings.{Configuration, Change, baud_to, rate_to, interval_to, systems_to, pulse_to, group_to}
use Rattle.commands.specs.Fields.{address_of, behind_address, only_field, one_digit, up_to_five_digits, digit_fields}

-- what a command asks: to set settings, to save, clear or load sections, to start, or to tell a setting
pub data Command : Type 0 where
  sets : List Change → Command
  saves : Sections → Command
  clears : Sections → Command
  loads : Sections → Command
  starts : Start → Command
  asks : Query → Command

-- what a frame or sentence is to the card: nothing of its own, a command with something wrong in it, or a command
pub data Request : Type 0 where
  passed_over : Request
  wrong : Request
  command : Command → Request

-- a command where a test holds
abbrev pub where_right : Bool → Command → Request
where_right right c = cond right (command c) wrong

-- whether a section is among some
abbrev pub names_section : Sections → Section → Bool
names_section x Port = x.port
names_section x Messages = x.messages
names_section x Navigation = x.navigation
names_section x Pulse = x.pulse
names_section x Group = x.group

abbrev pub all_sections : Sections
all_sections = record { port = true; messages = true; navigation = true; pulse = true; group = true }

-- the sections of a mask: bit n names section n, and other bits are ignored
abbrev pub bit : ℕ → ℕ → Bool
bit mask n = mask / 2 ^ n % 2 == 1

abbrev pub sections_in : ℕ → Sections
sections_in mask = record { port = bit mask 0; messages = bit mask 1; navigation = bit mask 3; pulse = bit mask 4; group = bit mask 5 }

-- the start of each number
abbrev pub start_at : ℕ → Option Start
start_at n = cond (n == 0) (Some Hot) (cond (n == 1) (Some Warm) (cond (n == 2) (Some Cold) (cond (n == 3) (Some Factory) None)))

-- the error of a number that no start has
abbrev pub unknown_start : ℕ → UnknownStart
unknown_start n = record { 0 = n }

abbrev pub start_request : Option Start → Request
start_request None = wrong
start_request (Some s) = command (starts s)

-- the message of a class and an id
abbrev pub sentence_message : ℕ → Option Message
sentence_message id = cond (id == 0x00) (Some Gga) (cond (id == 0x01) (Some Gll) (cond (id == 0x04) (Some Rmc) (cond (id == 0x08) (Some Zda) None)))

abbrev pub message_at : ℕ → ℕ → Option Message
message_at class id = cond (class == 0x4e) (sentence_message id) (cond (class == 0x01 && id == 0x10) (Some TimeUtc) None)

-- CFG-MSG: class, id, rate
abbrev pub rate_request : Option Message → ℕ → Request
rate_request None n = wrong
rate_request (Some m) n = where_right (nat_le n 255) (sets (rate_to m n ∷ []))

abbrev pub message_rate : List ℕ → Request
message_rate p = cond (length p == 4) (rate_request (message_at (slice_index p 0) (slice_index p 1)) (u2_at p 2)) wrong

-- CFG-RST: two bytes unread, reset mode, start
abbrev pub is_reset_mode : ℕ → Bool
is_reset_mode n = nat_le n 2 || n == 4

abbrev pub reset : List ℕ → Request
reset p = cond (length p == 4 && is_reset_mode (slice_index p 2)) (start_request (start_at (slice_index p 3))) wrong

-- CFG-TP: the pulse, or a query
abbrev pub time_pulse : List ℕ → Request
time_pulse p = cond (length p == 0) (command (asks query.Pulse)) (where_right (is_kept Pulse p) (sets (pulse_to (pulse_at p) ∷ [])))

-- CFG-RATE: interval, two bytes unread; or a query
abbrev pub fix_interval : List ℕ → Request
fix_interval p =
    cond (length p == 0) (command (asks query.Interval))
    (where_right (length p == 4 && interval_in_range (u2_at p 0)) (sets (interval_to (u2_at p 0) ∷ [])))

-- CFG-CFG: mask, mode, one byte unread
abbrev pub sections_request : Sections → ℕ → Request
sections_request x mode = cond (mode == 0) (command (clears x)) (cond (mode == 1) (command (saves x)) (cond (mode == 2) (command (loads x)) wrong))

abbrev pub configure : List ℕ → Request
configure p = cond (length p == 4) (sections_request (sections_in (u2_at p 0)) (slice_index p 2)) wrong

-- CFG-GROUP: the group setting, or a query
abbrev pub group_setting : List ℕ → Request
group_setting p = cond (length p == 0) (command (asks query.Group)) (where_right (is_kept Group p) (sets (group_to p ∷ [])))

-- a frame of class 06, by its id
abbrev pub frame_request : ℕ → List ℕ → Request
frame_request id p =
    cond (id == 0x01) (message_rate p) (cond (id == 0x02) (reset p) (cond (id == 0x03) (time_pulse p) (cond (id == 0x04) (fix_interval p)
    (cond (id == 0x05) (configure p) (cond (id == 0x08) (group_setting p) wrong)))))

-- PCAS00: no field
abbrev pub save_all : List ℕ → Request
save_all [] = command (saves all_sections)
save_all (b ∷ rest) = wrong

-- a command with one field, by what that field reads as
abbrev pub with_field : (List ℕ → Option ℕ) → (ℕ → Request) → Option (List ℕ) → Request
with_field read then None = wrong
with_field read then (Some field) = with_number then (read field)
  where
    with_number : (ℕ → Request) → Option ℕ → Request
    with_number then None = wrong
    with_number then (Some n) = then n

-- PCAS01: baud code; PCAS02: interval; PCAS04: systems; PCAS10: start
abbrev pub set_baud : ℕ → Request
set_baud n = where_right (baud_in_range n) (sets (baud_to n ∷ []))

abbrev pub set_interval : ℕ → Request
set_interval n = where_right (interval_in_range n) (sets (interval_to n ∷ []))

abbrev pub set_systems : ℕ → Request
set_systems n = where_right (systems_in_range n) (sets (systems_to n ∷ []))

abbrev pub start_by : ℕ → Request
start_by n = start_request (start_at n)

-- a rate that a field names; an empty field sets nothing
abbrev pub optional_rate : Message → Option ℕ → List Change
optional_rate m None = []
optional_rate m (Some n) = rate_to m n ∷ []

abbrev pub field_at : List (Option ℕ) → ℕ → Option ℕ
field_at fields n = slice_index_or fields n None

abbrev pub four_rates : Option ℕ → Option ℕ → Option ℕ → Option ℕ → List Change
four_rates gga gll rmc zda = optional_rate Gga gga ++ (optional_rate Gll gll ++ (optional_rate Rmc rmc ++ optional_rate Zda zda))

-- PCAS03: 13 or 14 fields, of which the first, second, fifth and seventh are rates
abbrev pub rates_request : Option (List (Option ℕ)) → Request
rates_request None = wrong
rates_request (Some fields) =
    where_right (length fields == 13 || length fields == 14) (sets (four_rates (field_at fields 0) (field_at fields 1) (field_at fields 4) (field_at fields 6)))

-- a sentence, by its first field and by what stands behind it
abbrev pub sentence_request : List ℕ → List ℕ → Request
sentence_request address rest =
    cond (bytes_eq address (codes "PCAS00")) (save_all rest)
    (cond (bytes_eq address (codes "PCAS01")) (with_field one_digit set_baud (only_field rest))
    (cond (bytes_eq address (codes "PCAS02")) (with_field up_to_five_digits set_interval (only_field rest))
    (cond (bytes_eq address (codes "PCAS03")) (rates_request (digit_fields rest))
    (cond (bytes_eq address (codes "PCAS04")) (with_field one_digit set_systems (only_field rest))
    (cond (bytes_eq address (codes "PCAS10")) (with_field one_digit start_by (only_field rest)) passed_over)))))

-- what a frame or sentence is to the card
abbrev pub request_of : Item → Request
request_of (frame_item class id p) = cond (class == 0x06) (frame_request id p) passed_over
request_of (sentence_item body) = sentence_request (address_of body) (behind_address body)

-- the id under which a setting is asked for, set and told
abbrev pub query_id : Query → ℕ
query_id query.Pulse = 0x03
query_id query.Interval = 0x04
query_id query.Group = 0x08

-- the payload that tells it; bytes that are not read are 0
abbrev pub told_payload : Query → Configuration → List ℕ
told_payload query.Pulse c = pulse_string c.pulse
told_payload query.Interval c = bytes2 c.interval ++ (0 ∷ 0 ∷ [])
told_payload query.Group c = c.group

-- the change that sets it to what it is
abbrev pub told_change : Query → Configuration → Change
told_change query.Pulse c = pulse_to c.pulse
told_change query.Interval c = interval_to c.interval
told_change query.Group c = group_to c.group
