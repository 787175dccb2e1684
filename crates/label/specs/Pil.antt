-- The PIL (document 01, 'PIL'; EN 300 231, clause 6.2 e)).
use Rattle.std.specs.Prelude.{ℕ, ◌/◌, ◌%◌, ◌^◌, Bool, cond, ◌&&◌, ltb, eqb}
use Rattle.label.specs.declared.pil.Announced.{Announced}
use Rattle.label.specs.declared.pil.Service.{Service}
use Rattle.label.specs.declared.pil.Service.TheVariants.{Programme, TimerControl, InhibitTerminate, Interruption, Continuation, NoSpecificValue}

-- a PIL has twenty bits
abbrev pub twenty_bits : ℕ → Bool
twenty_bits pil = ltb pil (2 ^ 20)

-- 'day (5 bits), month (4), hour (5), minute (6)', the highest first
abbrev pub day_of : ℕ → ℕ
day_of pil = pil / 2 ^ 15 % 2 ^ 5

abbrev pub month_of : ℕ → ℕ
month_of pil = pil / 2 ^ 11 % 2 ^ 4

abbrev pub hour_of : ℕ → ℕ
hour_of pil = pil / 2 ^ 6 % 2 ^ 5

abbrev pub minute_of : ℕ → ℕ
minute_of pil = pil % 2 ^ 6

abbrev pub parts_of : ℕ → Announced
parts_of pil = record { day = day_of pil; month = month_of pil; hour = hour_of pil; minute = minute_of pil }

-- 'service codes with day 0, month 15, minute 63: hour 31 timer-control, 30 record inhibit/terminate (RI/T), 29 interruption, 28 continuation'
abbrev pub service_at : ℕ → Service
service_at hour =
    cond (eqb hour 31) TimerControl
    (cond (eqb hour 30) InhibitTerminate
    (cond (eqb hour 29) Interruption
    (cond (eqb hour 28) Continuation Programme)))

-- 'no specific PIL value is as in clause 6.2 e)': all twenty bits are 1
abbrev pub no_specific_value : ℕ
no_specific_value = 0xFFFFF

-- what a PIL says; every other PIL, real or not, is a programme's
unfoldable pub service_of : ℕ → Service
service_of pil =
    cond (eqb pil no_specific_value) NoSpecificValue
    (cond (twenty_bits pil && eqb (day_of pil) 0 && eqb (month_of pil) 15 && eqb (minute_of pil) 63) (service_at (hour_of pil)) Programme)
