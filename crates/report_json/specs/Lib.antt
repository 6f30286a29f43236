pub mod JsonReports
