-- The venue after an edit.
use Rattle.std.specs.Prelude.{ℕ, if◌then◌else◌, List, Result, Ok, Err}
use Rattle.bid_import.specs.Results.{◌>>=◌}
use Rattle.bid_import.specs.Settings.{SettingsValue, settings_of_file}
use Rattle.bid_import.specs.declared.fault.Code.{Code}
use Rattle.bid_import.specs.declared.fault.Code.TheVariants.{UnknownSource}
use Rattle.table_edits.specs.Bodies.{Made, start_of, values_start, bids_start, papers_after, reviewers_after, values_after, bids_after, marks_after, caps_after}
use Rattle.table_edits.specs.declared.edit.How.{How}
use Rattle.table_edits.specs.declared.edit.TableName.{TableName}
use Rattle.table_edits.specs.declared.edit.TableName.TheVariants.{Settings, Papers, Reviewers, Values, Bids, Marks, Caps}
use Rattle.venue_rules.specs.Venues.{VenueValue, is_values_source, with_settings}

abbrev pub settings_after : VenueValue → Result SettingsValue Code → Made VenueValue
settings_after venue (Ok settings) = Ok (with_settings venue settings)
settings_after venue (Err code) = Err (0, code)

-- the venue after a body for one of its tables; the source of values is tested before the body is read
unfoldable pub venue_after : VenueValue → TableName → How → List ℕ → Made VenueValue
venue_after venue Settings how body = settings_after venue (settings_of_file body)
venue_after venue Papers how body =
    papers_after (start_of how venue.papers) body >>= (λ papers. Ok (record venue { papers = papers }))
venue_after venue Reviewers how body =
    reviewers_after (start_of how venue.reviewers) body >>= (λ reviewers. Ok (record venue { reviewers = reviewers }))
venue_after venue (Values source) how body =
    if is_values_source venue.settings source
    then values_after source (values_start how source venue.scores) body >>= (λ scores. Ok (record venue { scores = scores }))
    else Err (0, UnknownSource)
venue_after venue Bids how body =
    bids_after venue.settings (bids_start how venue.scores) body >>= (λ scores. Ok (record venue { scores = scores }))
venue_after venue Marks how body =
    marks_after (start_of how venue.marks) body >>= (λ marks. Ok (record venue { marks = marks }))
venue_after venue Caps how body =
    caps_after (start_of how venue.caps) body >>= (λ caps. Ok (record venue { caps = caps }))
